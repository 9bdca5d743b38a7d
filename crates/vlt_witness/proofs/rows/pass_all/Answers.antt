use Rattle.std.proofs.Common.{◌<◌, ◌≤◌, arith, length}
use Rattle.vlt_core.specs.View.{tok_of}
use Rattle.vlt_rows.specs.FlowView.{rows_view}
use Rattle.vlt_witness.specs.Ways.{On, OnSeen, IsWay, nothing_found}
use Rattle.vlt_witness.specs.Search.{Leads, CanLead, Meets, CanMeet, Passes}
use Rattle.vlt_witness.specs.Aims.{RowsHere}
use Rattle.vlt_witness.proofs.Lists.{spreads_more, spreads_first, spreads_ends}
use Rattle.vlt_witness.proofs.rows.pass_all.Goals as goal

pub loop-way-init : goal.loop-way-init
loop-way-init c =
    let T = Passes (tok_of c.args.aim.tok) (rows_view c.args.rows.now) in
    let M = RowsHere c.args.aim c.args.at (rows_view c.args.rows.now) in
    record {
      walks = rw c.new-list.ensures (spreads_first IsWay (Leads T) (CanLead T) nothing_found);
      sees = spreads_first IsWay (Meets M) (CanMeet M) (OnSeen c.args.met.now);
    }

pub returns-clause-walks : goal.returns-clause-walks
returns-clause-walks c =
    let past : length c.args.ways.now ≤ c.loop-way.way-index = omega arith in
    let T = Passes (tok_of c.args.aim.tok) (rows_view c.args.rows.now) in
    spreads_ends IsWay (Leads T) (CanLead T) c.args.ways.now c.loop-way.way-index nothing_found (On c.loop-way.list) past c.loop-way.invariant.walks

pub returns-clause-sees : goal.returns-clause-sees
returns-clause-sees c =
    let past : length c.args.ways.now ≤ c.loop-way.way-index = omega arith in
    let M = RowsHere c.args.aim c.args.at (rows_view c.args.rows.now) in
    spreads_ends IsWay (Meets M) (CanMeet M) c.args.ways.now c.loop-way.way-index (OnSeen c.args.met.now) (OnSeen c.loop-way.met) past c.loop-way.invariant.sees

pub loop-way-preserved : goal.loop-way-preserved
loop-way-preserved c =
    let lt : c.loop-way.way-index < length c.args.ways.now = omega arith in
    let T = Passes (tok_of c.args.aim.tok) (rows_view c.args.rows.now) in
    let M = RowsHere c.args.aim c.args.at (rows_view c.args.rows.now) in
    record {
      walks = spreads_more IsWay (Leads T) (CanLead T) c.args.ways.now c.loop-way.way-index c.way-item.result nothing_found (On c.loop-way.list) (On c.pass_way.new.list) lt c.way-item.is c.loop-way.invariant.walks c.in_ok-pass_way.ensures;
      sees = spreads_more IsWay (Meets M) (CanMeet M) c.args.ways.now c.loop-way.way-index c.way-item.result (OnSeen c.args.met.now) (OnSeen c.loop-way.met) (OnSeen c.see_rows.new.list) lt c.way-item.is c.loop-way.invariant.sees c.in_ok-see_rows.ensures;
    }
