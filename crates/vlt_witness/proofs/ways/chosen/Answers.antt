use Rattle.std.proofs.Common.{◌<◌, ◌++◌, ◌∷◌, ◌≡◌, [], arith, length, refl}
use Rattle.vlt_core.specs.Witness as w
use Rattle.vlt_core.specs.FaultView.{pick_of, choices_of}
use Rattle.vlt_witness.specs.declared.ways.Way.{Way}
use Rattle.vlt_witness.specs.Ways.{On, IsWay, nothing_found}
use Rattle.vlt_witness.specs.Search.{Leads, CanLead, Takes}
use Rattle.vlt_witness.proofs.Algebra.{walks_joined}
use Rattle.vlt_witness.proofs.Lists.{spreads_first, spreads_more}
use Rattle.vlt_witness.proofs.Steps.{way_takes}
use Rattle.vlt_witness.proofs.ways.chosen.Goals as goal

pub loop-way-init : goal.loop-way-init
loop-way-init c =
    let k = w.choice c.args.at (pick_of c.args.pick) in
    rw c.new-list.ensures (spreads_first IsWay (Leads (Takes k)) (CanLead (Takes k)) nothing_found)

pub loop-way-preserved : goal.loop-way-preserved
loop-way-preserved c =
    let lt : c.loop-way.way-index < length c.args.ways.now = omega arith in
    let k = w.choice c.args.at (pick_of c.args.pick) in
    let x = c.way-item.result in
    let y : Way = record { from = x.from; ones = x.ones; path = c.in_ok-path.path } in
    let path : choices_of c.in_ok-path.path ≡ choices_of x.path ++ k ∷ [] = rw c.as_slice.ensures at c.in_ok-path.ensures in
    let one = walks_joined (Takes k) (IsWay x) (On c.loop-way.list) (IsWay y) (On c.add.new.list) (way_takes k x y refl refl path) c.in_ok-add.ensures.joined in
    spreads_more IsWay (Leads (Takes k)) (CanLead (Takes k)) c.args.ways.now c.loop-way.way-index x nothing_found (On c.loop-way.list) (On c.add.new.list) lt c.way-item.is c.loop-way.invariant one
