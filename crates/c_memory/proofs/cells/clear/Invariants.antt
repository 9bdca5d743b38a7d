use Rattle.std.proofs.Common.{◌≡◌, ◌<◌, ◌≤◌, ◌+◌, ℕ, Some, length, slice_get, vec_capacity}
use Rattle.c_memory.specs.declared.cells.Cell.{Cell}
use Rattle.c_memory.proofs.cells.clear.Given as goal

abbrev pub invariant-loop-done : goal.invariant-loop-done
invariant-loop-done l = record {
  inside : (k : ℕ) → l.from ≤ k → k < l.from + l.done → slice_get l.cells.items k ≡ Some Cell.Unset;
  before : (k : ℕ) → k < l.from → slice_get l.cells.items k ≡ slice_get l.fn.cells.items k;
  following : (k : ℕ) → l.from + l.done ≤ k → slice_get l.cells.items k ≡ slice_get l.fn.cells.items k;
  long : length l.cells.items ≡ length l.fn.cells.items;
  room : vec_capacity l.cells ≡ vec_capacity l.fn.cells;
}
