use Rattle.std.proofs.Common.{◌≡◌, ◌<◌, ◌≤◌, ◌+◌, ℕ, pos, Some, length, slice_get, vec_capacity}
use Rattle.vlt_heap.specs.declared.slots.Slot.{Slot}
use Rattle.vlt_heap.proofs.slots.clear.Given as goal

abbrev pub invariant-loop-done : goal.invariant-loop-done
invariant-loop-done l = record {
  inside : (k : ℕ) → l.from ≤ k → k < l.from + l.done → slice_get l.cells.items k ≡ Some (Slot.Number (pos 0));
  before : (k : ℕ) → k < l.from → slice_get l.cells.items k ≡ slice_get l.fn.cells.items k;
  following : (k : ℕ) → l.from + l.done ≤ k → slice_get l.cells.items k ≡ slice_get l.fn.cells.items k;
  long : length l.cells.items ≡ length l.fn.cells.items;
  room : vec_capacity l.cells ≡ vec_capacity l.fn.cells;
}
