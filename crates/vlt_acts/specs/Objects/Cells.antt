-- Slots and cells of objects that are set.
use Rattle.std.specs.Prelude.{◌≡◌, ◌<◌, ◌≤◌, ◌+◌, ℕ, suc, false, List, [], ◌∷◌, length, Some, slice_get, slice_set}
use Rattle.vlt_meaning.specs.World.{Value, one, reference, Object, is_gone}
use Rattle.vlt_meaning.specs.Objects.{with_cell, with_changed_object}
use Rattle.vlt_heap.specs.declared.slots.Obj.{Obj}
use Rattle.vlt_heap.specs.declared.slots.Slot.{Slot}
use Rattle.vlt_heap.specs.declared.heap.Heap.{Heap}
use Rattle.vlt_heap.specs.Items.{Item, Items, IsAt, with_item}
use Rattle.vlt_heap.specs.Shown.{Holds, slots_of}
use Rattle.vlt_acts.specs.declared.values.values.Values.{Values}
use Rattle.vlt_acts.specs.Values.Parts.{HaveValue}
use Rattle.vlt_acts.specs.Values.Shown.{Seen}
use Rattle.vlt_acts.specs.Objects.Owned.{ShowsAll}

-- slots from a position on are these
abbrev pub set_from : (from : ℕ) → (row slots : List Slot) → List Slot
set_from k [] slots = slots
set_from k (a ∷ row) slots = set_from (suc k) row (slice_set slots k a)

abbrev pub with_slots : (from : ℕ) → (row : List Slot) → Item → Item
with_slots k row x = record x { slots = set_from k row x.slots }

-- so it is with the object of this number, where it is live at the place and has so many slots
abbrev pub StoresAll : Obj → (number from : ℕ) → (row : List Slot) → (old new : Heap) → Type 0
StoresAll o n k row old new =
    (items : Items) (x : Item) → Holds old items → IsAt items n x → x.place ≡ o.0 → k + length row ≤ slots_of old →
    Holds new (with_item n (with_slots k row x) items)

-- what a variable refers to, as a cell of it is set
pub record Refers (h : Heap) (values : Values) (c : Seen h values) (x i n : ℕ) (o : Object) : Type 0 where
  pub var : c.frame.vars x ≡ Some (one (reference n))
  pub at : slice_get c.objects n ≡ Some o
  pub live : is_gone o.owner ≡ false
  pub within : i < length o.cells

-- the value that slots from a position on have goes into a cell of the object that a variable refers to
abbrev pub SetsCell : (x i from : ℕ) → Values → (old new : Heap) → Type 0
SetsCell x i from values old new =
    (c : Seen old values) (n : ℕ) (o : Object) (a : Value) → Refers old values c x i n o →
    HaveValue c.items values.slots.items from values.width a →
    ShowsAll c.items new values.width (with_changed_object n (with_cell i a) c.objects)
