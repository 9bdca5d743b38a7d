use Rattle.std.proofs.Common.{sym, ap, subst, ◌∙◌, ◌+◌, arith, length, slice_get}
use Rattle.std.proofs.lemmas.List.{length-set}
use Rattle.vlt_rings.proofs.Rows.{row_fits}
use Rattle.vlt_acts.specs.Values.Filled.{IsFilled}
use Rattle.vlt_acts.specs.Values.Shown.{IsFrontOf}
use Rattle.vlt_acts.proofs.OfValues.Copies.{filled_more, outside_more, front_source}
use Rattle.vlt_acts.proofs.values.values.Values.gather.Goals as goal

pub slot_at-a-requires : goal.slot_at-a-requires
slot_at-a-requires c =
    let r = row_fits c.loop-j.j c.args.count c.args.self.now.width c.args.self.now.width c.loop-j-test.true (omega arith) in
    rw (c.loop-j.invariant.width, c.loop-j.invariant.long) (omega (arith, r, c.requires.within, c.requires.wide))

pub loop-j-preserved : goal.loop-j-preserved
loop-j-preserved c = record {
  outside = λ k out. ap (λ l. slice_get l k) c.put.ensures.items ∙ outside_more c.args.self.now.slots.items c.loop-j.self.slots.items c.args.to c.loop-j.j c.slot_at-a.result c.loop-j.invariant.outside k out;
  filled = subst (λ l. IsFilled (IsFrontOf c.args.self.now c.args.from) l c.args.to (c.loop-j.j + 1)) (sym c.put.ensures.items)
      (filled_more (IsFrontOf c.args.self.now c.args.from) c.loop-j.self.slots.items c.args.to c.loop-j.j c.slot_at-a.result
      (omega (arith, c.requires.within, c.requires.before, c.loop-j.invariant.long, c.loop-j-test.true)) c.loop-j.invariant.filled
      (front_source c.args.self.now c.loop-j.self c.args.from c.args.to c.loop-j.j c.slot_at-a.result c.loop-j.invariant.width c.loop-j.invariant.outside (omega (arith, c.requires.before, c.loop-j-test.true)) c.slot_at-a.ensures));
  long = ap length c.put.ensures.items ∙ length-set c.loop-j.self.slots.items (c.args.to + c.loop-j.j) c.slot_at-a.result ∙ c.loop-j.invariant.long;
  room = c.put.ensures.room ∙ c.loop-j.invariant.room;
  base = c.loop-j.invariant.base;
  vars = c.loop-j.invariant.vars;
  width = c.loop-j.invariant.width;
}
