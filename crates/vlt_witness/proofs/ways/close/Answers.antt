use Rattle.std.proofs.Common.{◌<◌, arith, length, subst}
use Rattle.vlt_witness.specs.Ways.{On, IsWay}
use Rattle.vlt_witness.specs.Search.{Joined, Spreads, By, CanBy}
use Rattle.vlt_witness.proofs.Looping.{closing_first, closing_more, closing_ends}
use Rattle.vlt_witness.proofs.ways.close.Goals as goal

pub loop-index-init : goal.loop-index-init
loop-index-init c =
    closing_first (On c.args.turn.now) (On c.args.ways.now) c.join.new.list (subst (λ l. Joined (On l) (On c.args.ways.now) (On c.join.new.list)) c.new-list.ensures c.in_ok-join.ensures)

pub returns : goal.returns
returns c = closing_ends (On c.args.turn.now) (On c.args.ways.now) c.loop-index.list c.loop-index.index (omega (arith, c.loop-index-test.false, c.len.ensures)) c.loop-index.invariant

pub loop-index-preserved : goal.loop-index-preserved
loop-index-preserved c =
    let lt : c.loop-index.index < length c.loop-index.list = omega (arith, c.loop-index-test.true, c.len.ensures) in
    let read = rw c.as_slice.ensures at c.index-as_slice-index.is in
    let x = c.index-as_slice-index.result in
    let S = On c.args.turn.now in
    let one = subst (λ y. Spreads (By S) (CanBy S) (IsWay y) (On c.loop-index.list) (On c.extend.new.list)) c.in_ok-way.ensures c.in_ok-extend.ensures.spreads in
    closing_more S (On c.args.ways.now) c.loop-index.list c.extend.new.list c.loop-index.index x lt read one c.in_ok-extend.ensures.grows c.loop-index.invariant
