use Rattle.vlt_rows.proofs.Taken.{stops_first, stops_more, goes_on}
use Rattle.vlt_rows.proofs.statements.give_build.Goals as goal

pub returns-in_err-give_operands : goal.returns-in_err-give_operands
returns-in_err-give_operands g c =
    stops_first _ _ _ _ _ c.args.to.now _ _ _ c.from_residual.ensures.1 (stops_more _ _ _ _ _ _ _ _ c.in_err-give_operands.ensures)

pub returns-in_err-give_case : goal.returns-in_err-give_case
returns-in_err-give_case g c =
    stops_first _ _ _ _ _ _ _ _ _ c.from_residual-in_err-give_case.ensures.1 (goes_on _ _ _ _ _ _ _ _ c.in_ok-give_operands.ensures c.in_err-give_case.ensures)

pub returns : goal.returns
returns g c = (goes_on _ _ _ _ _ _ _ _ (goes_on _ _ _ _ _ _ _ _ c.in_ok-give_operands.ensures c.in_ok-give_case.ensures) c.give_fill.ensures)
