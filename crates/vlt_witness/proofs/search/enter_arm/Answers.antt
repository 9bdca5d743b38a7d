use Rattle.std.proofs.Common.{inl}
use Rattle.vlt_rows.specs.FlowView.{rows_view}
use Rattle.vlt_witness.proofs.Large.{passed_on}
use Rattle.vlt_witness.proofs.Between.{entered}
use Rattle.vlt_witness.proofs.search.enter_arm.Goals as goal

pub returns : goal.returns
returns c =
    let takes = rw c.in_ok-case.ensures at c.in_ok-picked.ensures in
    entered c.args.aim c.args.at c.args.number c.args.position (rows_view c.args.rows.now) c.args.ways.now c.in_ok-picked.picked c.args.met.now c.pass_rows.new.met c.pass_rows.result takes c.pass_rows.ensures

pub returns-in_err-case : goal.returns-in_err-case
returns-in_err-case c = passed_on _ _ _ c.from_residual.ensures.1 c.in_err-case.ensures (λ h. inl h)
