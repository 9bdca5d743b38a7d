-- Slots of keys that were copied to the end. This serves the proof alone.
use Rattle.std.specs.Prelude.{◌≡◌, ℕ, ◌+◌, List, Some, slice_get}
use Rattle.vlt_heap.specs.declared.slots.Slot.{Slot}
use Rattle.vlt_acts.specs.declared.values.values.Values.{Values}
use Rattle.vlt_acts.specs.Values.Shown.{key_at}

-- from a position on the new table has the slots of these keys of the old one
abbrev pub AreNamed : (keys : List ℕ) → (old : Values) → (from : ℕ) → (new : Values) → Type 0
AreNamed keys old from new =
    (i k : ℕ) (a : Slot) → slice_get keys i ≡ Some k → slice_get old.slots.items (key_at old k) ≡ Some a →
    slice_get new.slots.items (from + i) ≡ Some a
