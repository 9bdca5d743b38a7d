-- Slots that were copied.
use Rattle.std.specs.Prelude.{◌≡◌, ◌<◌, ◌==◌, ◌+◌, ℕ, pos, if◌then◌else◌, List, Some, slice_get}
use Rattle.vlt_heap.specs.declared.slots.Obj.{Obj}
use Rattle.vlt_heap.specs.declared.slots.Slot.{Slot}
use Rattle.vlt_heap.specs.declared.slots.Slot.TheVariants.{Number}
use Rattle.vlt_heap.specs.declared.heap.Heap.{Heap}
use Rattle.vlt_heap.specs.Items.{Item, Items, IsAt, IsMadeAt}
use Rattle.vlt_heap.specs.Shown.{Holds}

-- so many slots from a position on are those of a source, as far as it has some
abbrev pub IsFilled : (source : ℕ → Slot → Type 0) → List Slot → (to count : ℕ) → Type 0
IsFilled source slots to n = (j : ℕ) (a : Slot) → j < n → source j a → slice_get slots (to + j) ≡ Some a

-- the slot k of the object of a number that was made at the place
pub record IsCellSlot (h : Heap) (o : Obj) (n k : ℕ) (a : Slot) : Type 0 where
  pub items : Items
  pub holds : Holds h items
  pub made : IsMadeAt items o.0 n
  pub item : Item
  pub at : IsAt items n item
  pub slot : slice_get item.slots k ≡ Some a

-- the slot j of a value of one part
abbrev pub IsSingleSlot : (front : Slot) → (j : ℕ) → Slot → Type 0
IsSingleSlot a j b = (if j == 0 then a else Number (pos 0)) ≡ b
