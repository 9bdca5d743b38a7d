use Rattle.vlt_rows.proofs.Taken.{stops_first, goes_on}
use Rattle.vlt_rows.proofs.statements.give_own.Goals as goal

pub returns-in_err-give_operand : goal.returns-in_err-give_operand
returns-in_err-give_operand g c = stops_first _ _ _ _ _ _ _ _ _ c.from_residual.ensures.1 c.in_err-give_operand.ensures

pub returns : goal.returns
returns g c = goes_on _ _ _ _ _ _ _ _ c.in_ok-give_operand.ensures c.give_fill.ensures
