use Rattle.std.proofs.Common.{◌<◌, arith, length, subst}
use Rattle.vlt_witness.specs.Ways.{On, IsWay}
use Rattle.vlt_witness.specs.Search.{Joined}
use Rattle.vlt_witness.proofs.Lists.{joined_more}
use Rattle.vlt_witness.proofs.ways.join.Goals as goal

pub loop-way-preserved : goal.loop-way-preserved
loop-way-preserved c =
    let lt : c.loop-way.way-index < length c.args.more.now = omega arith in
    let one = subst (λ x. Joined (On c.loop-way.list) (IsWay x) (On c.add.new.list)) c.in_ok-copied.ensures c.in_ok-add.ensures.joined in
    joined_more IsWay c.args.more.now c.loop-way.way-index c.way-item.result (On c.args.list.now) (On c.loop-way.list) (On c.add.new.list) lt c.way-item.is c.loop-way.invariant one
