use Rattle.std.proofs.Common.{◌≡◌, ◌<◌, ◌≤◌, ◌-◌, max, ℕ, length, slice_get, vec_capacity}
use Rattle.vlt_acts.proofs.values.values.Values.grow_to.Given as goal

abbrev pub invariant-loop-self : goal.invariant-loop-self
invariant-loop-self l = record {
  same : (k : ℕ) → k < length l.fn.self.slots.items → slice_get l.self.slots.items k ≡ slice_get l.fn.self.slots.items k;
  short : length l.self.slots.items ≤ max (length l.fn.self.slots.items) l.end;
  long : length l.fn.self.slots.items ≤ length l.self.slots.items;
  room : vec_capacity l.fn.self.slots ≤ vec_capacity l.self.slots;
  base : l.self.base ≡ l.fn.self.base;
  vars : l.self.vars ≡ l.fn.self.vars;
  width : l.self.width ≡ l.fn.self.width;
}

abbrev pub decreases-loop-self : goal.decreases-loop-self
decreases-loop-self l = l.end - length l.self.slots.items
