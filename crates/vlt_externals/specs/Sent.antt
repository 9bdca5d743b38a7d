-- Objects that go out to the host.
use Rattle.std.specs.Prelude.{◌≡◌, ℕ, true, List, [], ◌∷◌, Some, Ok}
use Rattle.std.specs.List.{flat_map}
use Rattle.vlt_core.specs.Core.{Entry}
use Rattle.vlt_core.specs.Lookups.{is_held_before}
use Rattle.vlt_heap.specs.declared.slots.Obj.{Obj}
use Rattle.vlt_heap.specs.declared.heap.Heap.{Heap}
use Rattle.vlt_heap.specs.Items.{Items, IsMadeAt}
use Rattle.vlt_heap.specs.Shown.{Holds}
use Rattle.vlt_meaning.specs.World.{Value, objects_in, Object, is_at, is_loose, out, Frame}
use Rattle.vlt_meaning.specs.Found.{Found}
use Rattle.vlt_meaning.specs.Objects.{with_owner, with_changed_object, objects_after_move}
use Rattle.vlt_meaning.specs.Calls.{caller_object}
use Rattle.vlt_meaning.specs.Externals.{taken_objects}
use Rattle.vlt_acts.specs.declared.values.values.Values.{Values}
use Rattle.vlt_acts.specs.Values.Shown.{ShowObjects, Seen}
use Rattle.vlt_acts.specs.Acts.Acts.{Shows}
use Rattle.vlt_acts.specs.Frames.Left.{IsRootAt}
use Rattle.vlt_externals.specs.Told.{AreArgs}

-- ---- one object

-- the heap shows these objects; what was made before is known still
pub record ShowsAll (before : Items) (heap : Heap) (width : ℕ) (objects : List Object) : Type 0 where
  pub items : Items
  pub holds : Holds heap items
  pub shown : ShowObjects items width objects
  pub kept : (c n : ℕ) → IsMadeAt before c n → IsMadeAt items c n

-- the object of this number is at the place, with nothing above it, and it isn't out
pub record CanGo (heap : Heap) (o : Obj) : Type 0 where
  pub items : Items
  pub width : ℕ
  pub objects : List Object
  pub number : ℕ
  pub holds : Holds heap items
  pub shown : ShowObjects items width objects
  pub root : IsRootAt objects number
  pub made : IsMadeAt items o.0 number

-- it is out
abbrev pub Goes : Obj → (old new : Heap) → Type 0
Goes o old new =
    (items : Items) (width : ℕ) (objects : List Object) (n : ℕ) → Holds old items → ShowObjects items width objects →
    IsRootAt objects n → IsMadeAt items o.0 n → ShowsAll items new width (with_changed_object n (with_owner out) objects)

-- ---- the objects of the keys that are taken

-- the caller's key names an object
pub record IsNamed (keys : List ℕ) (frame : Frame) (e : Entry) : Type 0 where
  pub number : ℕ
  pub is : caller_object keys frame e ≡ Some number

-- so it is where the key is held before
abbrev pub AreNamed : (keys : List ℕ) → Frame → List Entry → Type 0
AreNamed keys frame [] = Unit {0}
AreNamed keys frame (e ∷ es) = (is_held_before e ≡ true → IsNamed keys frame e) × AreNamed keys frame es

abbrev pub taken_out : (keys : List ℕ) → List Entry → Frame → List Object → Found (List Object)
taken_out keys es frame objects = objects_after_move (is_at frame.depth) out (taken_objects keys frame es) objects

-- they can go, for some frame and objects that the tables show
pub record CanTake (heap : Heap) (values : Values) (keys : List ℕ) (es : List Entry) : Type 0 where
  pub seen : Seen heap values
  pub named : AreNamed keys seen.frame es
  pub after : List Object
  pub is : taken_out keys es seen.frame seen.objects ≡ Ok after

-- they are out, whatever frame and objects the tables showed
abbrev pub Takes : (keys : List ℕ) → List Entry → Values → (old new : Heap) → Type 0
Takes keys es values old new =
    (c : Seen old values) (after : List Object) → AreNamed keys c.frame es → taken_out keys es c.frame c.objects ≡ Ok after →
    Shows c.items new values c.frame after

-- ---- the objects that arguments own

abbrev pub owned_out : List Value → List Object → Found (List Object)
owned_out args objects = objects_after_move is_loose out (flat_map objects_in args) objects

pub record CanHand (heap : Heap) (values : Values) (from count : ℕ) : Type 0 where
  pub seen : Seen heap values
  pub args : List Value
  pub are : AreArgs seen.items values from count args
  pub after : List Object
  pub is : owned_out args seen.objects ≡ Ok after

abbrev pub Hands : (from count : ℕ) → Values → (old new : Heap) → Type 0
Hands from n values old new =
    (c : Seen old values) (args : List Value) (after : List Object) → AreArgs c.items values from n args →
    owned_out args c.objects ≡ Ok after → Shows c.items new values c.frame after
