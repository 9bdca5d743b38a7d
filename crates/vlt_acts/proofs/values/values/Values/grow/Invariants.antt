use Rattle.std.proofs.Common.{◌≡◌, ◌<◌, ◌≤◌, ◌+◌, ℕ, length, slice_get, vec_capacity}
use Rattle.vlt_acts.proofs.values.values.Values.grow.Given as goal

abbrev pub invariant-loop-done : goal.invariant-loop-done
invariant-loop-done l = record {
  same : (k : ℕ) → k < length l.fn.self.slots.items → slice_get l.self.slots.items k ≡ slice_get l.fn.self.slots.items k;
  long : length l.self.slots.items ≡ length l.fn.self.slots.items + l.done;
  room : vec_capacity l.fn.self.slots ≤ vec_capacity l.self.slots;
  base : l.self.base ≡ l.fn.self.base;
  vars : l.self.vars ≡ l.fn.self.vars;
  width : l.self.width ≡ l.fn.self.width;
}
