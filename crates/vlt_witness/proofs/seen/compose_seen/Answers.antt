use Rattle.std.proofs.Common.{◌<◌, arith, length}
use Rattle.vlt_witness.specs.Ways.{OnSeen, IsWay}
use Rattle.vlt_witness.specs.Search.{By, CanBy}
use Rattle.vlt_witness.proofs.Lists.{spreads_more, spreads_first}
use Rattle.vlt_witness.proofs.seen.compose_seen.Goals as goal

pub loop-way-init : goal.loop-way-init
loop-way-init c = spreads_first IsWay (By (OnSeen c.args.steps.now)) (CanBy (OnSeen c.args.steps.now)) (OnSeen c.args.list.now)

pub loop-way-preserved : goal.loop-way-preserved
loop-way-preserved c =
    let lt : c.loop-way.way-index < length c.args.ways.now = omega arith in
    let S = OnSeen c.args.steps.now in
    spreads_more IsWay (By S) (CanBy S) c.args.ways.now c.loop-way.way-index c.way-item.result (OnSeen c.args.list.now) (OnSeen c.loop-way.list) (OnSeen c.extend.new.list) lt c.way-item.is c.loop-way.invariant c.in_ok-extend.ensures
