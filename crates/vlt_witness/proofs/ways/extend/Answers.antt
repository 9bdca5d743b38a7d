use Rattle.std.proofs.Common.{◌<◌, ◌++◌, ◌∙◌, [], arith, length, sym, ap, append_assoc}
use Rattle.std.proofs.lemmas.List.{append-nil}
use Rattle.vlt_witness.specs.Ways.{On, IsWay}
use Rattle.vlt_witness.proofs.Lists.{by_more, by_first}
use Rattle.vlt_witness.proofs.ways.extend.Goals as goal

pub loop-step-init : goal.loop-step-init
loop-step-init c = record {
  spreads = by_first IsWay (IsWay c.args.way.now) (On c.args.list.now);
  grows = record { more = []; is = sym (append-nil c.args.list.now) };
}

pub loop-step-preserved : goal.loop-step-preserved
loop-step-preserved c =
    let lt : c.loop-step.step-index < length c.args.steps.now = omega arith in
    let a = c.loop-step.invariant.grows in
    let b = c.in_ok-extend_by.ensures.grows in
    record {
      spreads = by_more IsWay c.args.steps.now c.loop-step.step-index c.step-item.result (IsWay c.args.way.now) (On c.args.list.now) (On c.loop-step.list) (On c.extend_by.new.list) lt c.step-item.is c.loop-step.invariant.spreads c.in_ok-extend_by.ensures.spreads;
      grows = record { more = a.more ++ b.more; is = b.is ∙ ap (λ l. l ++ b.more) a.is ∙ append_assoc c.args.list.now a.more b.more };
    }
