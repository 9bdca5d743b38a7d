use Rattle.std.proofs.Common.{◌≡◌, ◌<◌, ◌≤◌, ◌-◌, max, ℕ, length, slice_get, vec_capacity}
use Rattle.vlt_heap.proofs.slots.grow_to.Given as goal

abbrev pub invariant-loop-cells : goal.invariant-loop-cells
invariant-loop-cells l = record {
  before : (k : ℕ) → k < length l.fn.cells.items → slice_get l.cells.items k ≡ slice_get l.fn.cells.items k;
  short : length l.cells.items ≤ max (length l.fn.cells.items) l.end;
  long : length l.fn.cells.items ≤ length l.cells.items;
  room : vec_capacity l.fn.cells ≤ vec_capacity l.cells;
}

abbrev pub decreases-loop-cells : goal.decreases-loop-cells
decreases-loop-cells l = l.end - length l.cells.items
