use Rattle.std.proofs.Common.{◌<◌, ◌≤◌, arith, length}
use Rattle.vlt_witness.specs.Ways.{On, IsWay, nothing_found}
use Rattle.vlt_witness.specs.Search.{By, CanBy}
use Rattle.vlt_witness.proofs.Lists.{spreads_first, spreads_more, spreads_ends}
use Rattle.vlt_witness.proofs.ways.compose.Goals as goal

pub loop-way-init : goal.loop-way-init
loop-way-init c =
    let S = On c.args.steps.now in
    rw c.new-list.ensures (spreads_first IsWay (By S) (CanBy S) nothing_found)

pub returns : goal.returns
returns c =
    let past : length c.args.ways.now ≤ c.loop-way.way-index = omega arith in
    let S = On c.args.steps.now in
    spreads_ends IsWay (By S) (CanBy S) c.args.ways.now c.loop-way.way-index nothing_found (On c.loop-way.list) past c.loop-way.invariant

pub loop-way-preserved : goal.loop-way-preserved
loop-way-preserved c =
    let lt : c.loop-way.way-index < length c.args.ways.now = omega arith in
    let S = On c.args.steps.now in
    spreads_more IsWay (By S) (CanBy S) c.args.ways.now c.loop-way.way-index c.way-item.result nothing_found (On c.loop-way.list) (On c.extend.new.list) lt c.way-item.is c.loop-way.invariant c.in_ok-extend.ensures.spreads
