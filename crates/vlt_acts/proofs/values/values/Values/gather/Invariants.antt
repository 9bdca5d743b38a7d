use Rattle.std.proofs.Common.{◌≡◌, length, vec_capacity}
use Rattle.vlt_acts.specs.Values.Filled.{IsFilled}
use Rattle.vlt_acts.specs.Values.Shown.{IsFrontOf}
use Rattle.vlt_acts.proofs.OfValues.Copies.{IsOutside}
use Rattle.vlt_acts.proofs.values.values.Values.gather.Given as goal

abbrev pub invariant-loop-j : goal.invariant-loop-j
invariant-loop-j l = record {
  outside : IsOutside l.fn.self.slots.items l.self.slots.items l.to l.j;
  filled : IsFilled (IsFrontOf l.fn.self l.from) l.self.slots.items l.to l.j;
  long : length l.self.slots.items ≡ length l.fn.self.slots.items;
  room : vec_capacity l.self.slots ≡ vec_capacity l.fn.self.slots;
  base : l.self.base ≡ l.fn.self.base;
  vars : l.self.vars ≡ l.fn.self.vars;
  width : l.self.width ≡ l.fn.self.width;
}
