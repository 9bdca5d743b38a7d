use Rattle.vlt_rows.proofs.Taken.{stops_first, goes_on}
use Rattle.vlt_rows.proofs.statements.give_arm.Goals as goal

pub returns-in_err-give_case : goal.returns-in_err-give_case
returns-in_err-give_case g c = stops_first _ _ _ _ _ _ _ _ _ c.from_residual.ensures.1 c.in_err-give_case.ensures

pub returns : goal.returns
returns g c = goes_on _ _ _ _ _ _ _ _ c.in_ok-give_case.ensures c.give_fills.ensures
