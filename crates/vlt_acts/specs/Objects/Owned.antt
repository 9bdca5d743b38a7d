-- The objects that slots own, and what becomes of them.
use Rattle.std.specs.Prelude.{◌≡◌, ℕ, List, [], ◌∷◌, Some, Ok, slice_get}
use Rattle.std.specs.List.{flat_map}
use Rattle.vlt_core.specs.Core.{Program}
use Rattle.vlt_meaning.specs.World.{Part, objects_in_part, Object, held, loose, inside, is_loose, is_inside, wrong_state}
use Rattle.vlt_meaning.specs.Found.{Found, ◌>>=◌, if_so}
use Rattle.vlt_meaning.specs.Objects.{owned_at, objects_after_move, is_releasable, objects_after_release}
use Rattle.vlt_heap.specs.declared.slots.Obj.{Obj}
use Rattle.vlt_heap.specs.declared.slots.Slot.{Slot}
use Rattle.vlt_heap.specs.declared.heap.Heap.{Heap}
use Rattle.vlt_heap.specs.Items.{Items, IsMadeAt}
use Rattle.vlt_heap.specs.Shown.{Holds}
use Rattle.vlt_acts.specs.Values.Parts.{HasPart}
use Rattle.vlt_acts.specs.Values.Shown.{ShowObjects}

-- slots have these parts, one after another
abbrev pub AreParts : Items → List Slot → List Part → Type 0
AreParts items [] [] = Unit {0}
AreParts items (a ∷ slots) (p ∷ ps) = HasPart items p a × AreParts items slots ps
AreParts items _ _ = ⊥

-- the objects that parts own
abbrev pub owned_in : List Part → List ℕ
owned_in = flat_map objects_in_part

-- objects that a heap shows, and parts that slots have
pub record Sees (heap : Heap) (slots : List Slot) : Type 0 where
  pub items : Items
  pub width : ℕ
  pub objects : List Object
  pub parts : List Part
  pub holds : Holds heap items
  pub shown : ShowObjects items width objects
  pub have : AreParts items slots parts

-- the heap shows these objects; what was made before is known still
pub record ShowsAll (before : Items) (heap : Heap) (width : ℕ) (objects : List Object) : Type 0 where
  pub items : Items
  pub holds : Holds heap items
  pub shown : ShowObjects items width objects
  pub kept : (c n : ℕ) → IsMadeAt before c n → IsMadeAt items c n

-- the object of this number is at the place, and a function holds it
pub record IsHeldAt (items : Items) (objects : List Object) (n place : ℕ) : Type 0 where
  pub object : Object
  pub at : slice_get objects n ≡ Some object
  pub depth : ℕ
  pub key : ℕ
  pub owner : object.owner ≡ held depth key
  pub made : IsMadeAt items place n

-- ---- what becomes of objects

abbrev pub Change : Type 0
Change = List ℕ → List Object → Found (List Object)

-- they go into an object, where each is loose
abbrev pub put_in : (n : ℕ) → Change
put_in n = objects_after_move is_loose (inside n)

-- they leave the object that each is in
abbrev pub taken_out : (n : ℕ) → Change
taken_out n = objects_after_move (is_inside n) loose

-- they are released, one after another, where each is loose
abbrev pub objects_after_drop : Program → Change
objects_after_drop p [] objects = Ok objects
objects_after_drop p (n ∷ ns) objects = do
  m ← owned_at is_loose objects n
  _ ← if_so (is_releasable p objects n) wrong_state m
  objects_after_drop p ns (objects_after_release n objects)

-- ---- what the calls ask and do

-- the change can be made to the objects that the slots own, for some objects that the heap shows
pub record Can (change : Change) (heap : Heap) (slots : List Slot) : Type 0 where
  pub sees : Sees heap slots
  pub after : List Object
  pub is : change (owned_in sees.parts) sees.objects ≡ Ok after

-- the change is made, whatever objects the heap showed
abbrev pub Makes : Change → List Slot → (old new : Heap) → Type 0
Makes change slots old new =
    (s : Sees old slots) (after : List Object) → change (owned_in s.parts) s.objects ≡ Ok after →
    ShowsAll s.items new s.width after

-- they can go into the object at a place, which a function holds
pub record CanHang (heap : Heap) (slots : List Slot) (parent : Obj) : Type 0 where
  pub number : ℕ
  pub can : Can (put_in number) heap slots
  pub holder : IsHeldAt can.sees.items can.sees.objects number parent.0

abbrev pub HangsAll : List Slot → (parent : Obj) → (old new : Heap) → Type 0
HangsAll slots parent old new =
    (s : Sees old slots) (n : ℕ) (after : List Object) → IsHeldAt s.items s.objects n parent.0 →
    put_in n (owned_in s.parts) s.objects ≡ Ok after → ShowsAll s.items new s.width after

-- they can leave the object that they are in
pub record CanFree (heap : Heap) (slots : List Slot) : Type 0 where
  pub number : ℕ
  pub can : Can (taken_out number) heap slots

abbrev pub FreesAll : List Slot → (old new : Heap) → Type 0
FreesAll slots old new = (n : ℕ) → Makes (taken_out n) slots old new

-- they can be released
pub record CanDrop (heap : Heap) (slots : List Slot) : Type 0 where
  pub program : Program
  pub can : Can (objects_after_drop program) heap slots

abbrev pub DropsAll : List Slot → (old new : Heap) → Type 0
DropsAll slots old new = (p : Program) → Makes (objects_after_drop p) slots old new
