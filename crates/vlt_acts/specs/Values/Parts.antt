-- The slots that a value takes.
use Rattle.std.specs.Prelude.{◌≡◌, ◌≤◌, ℕ, suc, ◌-◌, pos, List, [], ◌∷◌, ◌++◌, map, length, replicate, Some, slice_get}
use Rattle.vlt_heap.specs.declared.slots.Obj.{Obj}
use Rattle.vlt_heap.specs.declared.slots.Slot.{Slot}
use Rattle.vlt_heap.specs.declared.slots.Slot.TheVariants.{Number, Object, Owned}
use Rattle.vlt_heap.specs.Items.{Items, IsMadeAt}
use Rattle.vlt_meaning.specs.World.{Part, number, reference, owned, Value, one, of_case}

-- A value as its parts. One of a variant has its case in front, and the objects of its case's keys at the end.
abbrev pub flat : Value → List Part
flat (one a) = a ∷ []
flat (of_case c parts keys) = number (pos c) ∷ parts ++ map owned keys

-- the part that stands in front
abbrev pub head_of : Value → Part
head_of (one a) = a
head_of (of_case c parts keys) = number (pos c)

-- a value in so many slots: its parts, and 0 in the rest
abbrev pub padded_parts : (width : ℕ) → Value → List Part
padded_parts width a = flat a ++ replicate (width - length (flat a)) (number (pos 0))

-- a slot that goes to the object of this number, and doesn't own it
pub record IsObject (items : Items) (n : ℕ) (a : Slot) : Type 0 where
  pub object : Obj
  pub is : a ≡ Object object n
  pub made : IsMadeAt items object.0 n

-- a slot that owns the object of this number
pub record IsOwned (items : Items) (n : ℕ) (a : Slot) : Type 0 where
  pub object : Obj
  pub is : a ≡ Owned object n
  pub made : IsMadeAt items object.0 n

abbrev pub HasPart : Items → Part → Slot → Type 0
HasPart items (number z) a = a ≡ Number z
HasPart items (reference n) a = IsObject items n a
HasPart items (owned n) a = IsOwned items n a

pub record HasPartAt (items : Items) (slots : List Slot) (k : ℕ) (p : Part) : Type 0 where
  pub slot : Slot
  pub at : slice_get slots k ≡ Some slot
  pub part : HasPart items p slot

-- slots have these parts, from a position on
abbrev pub HaveParts : Items → List Slot → (from : ℕ) → List Part → Type 0
HaveParts items slots k [] = Unit {0}
HaveParts items slots k (p ∷ ps) = HasPartAt items slots k p × HaveParts items slots (suc k) ps

-- so many slots have the value, from a position on
pub record HaveValue (items : Items) (slots : List Slot) (from width : ℕ) (a : Value) : Type 0 where
  pub narrow : length (flat a) ≤ width
  pub parts : HaveParts items slots from (padded_parts width a)
