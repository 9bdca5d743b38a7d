use Rattle.std.proofs.Common.{◌∙◌, ap, subst}
use Rattle.vlt_rows.specs.FlowView.{rows_view}
use Rattle.vlt_witness.specs.Between.{PassesRows}
use Rattle.vlt_witness.proofs.search.leave.Goals as goal

pub returns : goal.returns
returns c =
    let rows = ap rows_view c.as_slice.ensures ∙ c.in_ok-rows.ensures in
    subst (λ rs. PassesRows c.args.aim c.args.at c.args.number rs c.args.ways c.args.met.now c.pass_rows.new.met c.pass_rows.result) rows c.pass_rows.ensures
