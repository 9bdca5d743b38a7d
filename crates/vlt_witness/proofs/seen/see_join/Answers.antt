use Rattle.std.proofs.Common.{◌<◌, arith, length}
use Rattle.vlt_witness.specs.Ways.{OnSeen, IsWay, class_of}
use Rattle.vlt_witness.specs.Search.{Meets, CanMeet}
use Rattle.vlt_witness.specs.Aims.{JoinHere, spot_of}
use Rattle.vlt_witness.proofs.Lists.{spreads_more, spreads_first}
use Rattle.vlt_witness.proofs.seen.see_join.Goals as goal

pub loop-way-init : goal.loop-way-init
loop-way-init c =
    let M = JoinHere c.args.aim (spot_of c.args.at (class_of c.args.join.is_head) c.args.join.number) in
    spreads_first IsWay (Meets M) (CanMeet M) (OnSeen c.args.list.now)

pub loop-way-preserved : goal.loop-way-preserved
loop-way-preserved c =
    let lt : c.loop-way.way-index < length c.args.ways.now = omega arith in
    let M = JoinHere c.args.aim (spot_of c.args.at (class_of c.args.join.is_head) c.args.join.number) in
    spreads_more IsWay (Meets M) (CanMeet M) c.args.ways.now c.loop-way.way-index c.way-item.result (OnSeen c.args.list.now) (OnSeen c.loop-way.list) (OnSeen c.see_way.new.list) lt c.way-item.is c.loop-way.invariant c.in_ok-see_way.ensures
