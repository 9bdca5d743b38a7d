use Rattle.std.proofs.Common.{sym, ap, subst, ◌∙◌, ◌+◌, arith, length, slice_get}
use Rattle.std.proofs.lemmas.List.{length-set}
use Rattle.vlt_acts.specs.Values.Filled.{IsFilled}
use Rattle.vlt_acts.specs.Values.Shown.{IsSlotFrom}
use Rattle.vlt_acts.proofs.OfValues.Copies.{filled_more, outside_more, slot_source}
use Rattle.vlt_acts.proofs.values.values.Values.copy.Goals as goal

pub loop-j-preserved : goal.loop-j-preserved
loop-j-preserved c = record {
  outside = λ k out. ap (λ l. slice_get l k) c.put.ensures.items ∙ outside_more c.args.self.now.slots.items c.loop-j.self.slots.items c.args.to c.loop-j.j c.slot_at-a.result c.loop-j.invariant.outside k out;
  filled = λ apart. subst (λ l. IsFilled (IsSlotFrom c.args.self.now c.args.from) l c.args.to (c.loop-j.j + 1)) (sym c.put.ensures.items)
      (filled_more (IsSlotFrom c.args.self.now c.args.from) c.loop-j.self.slots.items c.args.to c.loop-j.j c.slot_at-a.result
      (omega (arith, c.requires.to_within, c.loop-j.invariant.long, c.loop-j-test.true)) (c.loop-j.invariant.filled apart)
      (slot_source c.args.self.now c.loop-j.self c.args.from c.args.to c.loop-j.j c.slot_at-a.result c.loop-j-test.true c.loop-j.invariant.outside apart c.slot_at-a.ensures));
  long = ap length c.put.ensures.items ∙ length-set c.loop-j.self.slots.items (c.args.to + c.loop-j.j) c.slot_at-a.result ∙ c.loop-j.invariant.long;
  room = c.put.ensures.room ∙ c.loop-j.invariant.room;
  base = c.loop-j.invariant.base;
  vars = c.loop-j.invariant.vars;
  width = c.loop-j.invariant.width;
}

pub returns-clause-filled : goal.returns-clause-filled
returns-clause-filled c = λ apart j a l is. c.loop-j.invariant.filled apart j a (omega (arith, l, c.loop-j-test.false)) is
