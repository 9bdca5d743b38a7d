use Rattle.std.proofs.Common.{◌<◌, arith, length}
use Rattle.vlt_witness.specs.Ways.{OnSeen, IsSeen, IsWay}
use Rattle.vlt_witness.proofs.Lists.{by_more, by_first}
use Rattle.vlt_witness.proofs.seen.extend.Goals as goal

pub loop-step-init : goal.loop-step-init
loop-step-init c = by_first IsSeen (IsWay c.args.way.now) (OnSeen c.args.list.now)

pub loop-step-preserved : goal.loop-step-preserved
loop-step-preserved c =
    let lt : c.loop-step.step-index < length c.args.steps.now = omega arith in
    by_more IsSeen c.args.steps.now c.loop-step.step-index c.step-item.result (IsWay c.args.way.now) (OnSeen c.args.list.now) (OnSeen c.loop-step.list) (OnSeen c.extend_by.new.list) lt c.step-item.is c.loop-step.invariant c.in_ok-extend_by.ensures
