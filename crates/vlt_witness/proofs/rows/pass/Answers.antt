use Rattle.vlt_core.specs.View.{tok_of}
use Rattle.vlt_rows.specs.FlowView.{rows_view}
use Rattle.vlt_witness.specs.Ways.{On, OnSeen}
use Rattle.vlt_witness.proofs.Rowing.{others_walk, others_see, no_rows}
use Rattle.vlt_witness.proofs.rows.pass.Goals as goal

pub returns-else-has_rows_of-clause-walks : goal.returns-else-has_rows_of-clause-walks
returns-else-has_rows_of-clause-walks c =
    let t = tok_of c.args.aim.tok in
    let rs = rows_view c.args.rows.now in
    others_walk t rs (On c.args.ways) (no_rows t rs c.has_rows_of.result c.if-has_rows_of.false c.has_rows_of.ensures)

pub returns-else-has_rows_of-clause-sees : goal.returns-else-has_rows_of-clause-sees
returns-else-has_rows_of-clause-sees c =
    let t = tok_of c.args.aim.tok in
    let rs = rows_view c.args.rows.now in
    others_see c.args.aim c.args.at rs (On c.args.ways) (OnSeen c.args.met.now) (no_rows t rs c.has_rows_of.result c.if-has_rows_of.false c.has_rows_of.ensures)
