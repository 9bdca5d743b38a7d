use Rattle.std.proofs.Common.{sym, ap, subst, ◌∙◌, ◌+◌, arith, length, slice_get}
use Rattle.std.proofs.lemmas.List.{length-set}
use Rattle.vlt_acts.specs.Values.Filled.{IsFilled, IsSingleSlot}
use Rattle.vlt_acts.proofs.OfValues.Copies.{filled_more, outside_more}
use Rattle.vlt_acts.proofs.values.values.Values.put_single.Goals as goal

pub loop-j-preserved : goal.loop-j-preserved
loop-j-preserved c = record {
  outside = λ k out. ap (λ l. slice_get l k) c.put.ensures.items ∙ outside_more c.args.self.now.slots.items c.loop-j.self.slots.items c.args.to c.loop-j.j c.single.result c.loop-j.invariant.outside k out;
  filled = subst (λ l. IsFilled (IsSingleSlot c.args.front) l c.args.to (c.loop-j.j + 1)) (sym c.put.ensures.items)
      (filled_more (IsSingleSlot c.args.front) c.loop-j.self.slots.items c.args.to c.loop-j.j c.single.result
      (omega (arith, c.requires.within, c.loop-j.invariant.long, c.loop-j-test.true)) c.loop-j.invariant.filled c.single.ensures);
  long = ap length c.put.ensures.items ∙ length-set c.loop-j.self.slots.items (c.args.to + c.loop-j.j) c.single.result ∙ c.loop-j.invariant.long;
  room = c.put.ensures.room ∙ c.loop-j.invariant.room;
  base = c.loop-j.invariant.base;
  vars = c.loop-j.invariant.vars;
  width = c.loop-j.invariant.width;
}

pub returns-clause-filled : goal.returns-clause-filled
returns-clause-filled c = λ j a l is. c.loop-j.invariant.filled j a (omega (arith, l, c.loop-j-test.false)) is
