use Rattle.vlt_rows.proofs.Taken.{stops_first, goes_on}
use Rattle.vlt_rows.proofs.statements.give_make.Goals as goal

pub returns-in_err-give_operands : goal.returns-in_err-give_operands
returns-in_err-give_operands g c = stops_first _ _ _ _ _ _ _ _ _ c.from_residual.ensures.1 c.in_err-give_operands.ensures

pub returns : goal.returns
returns g c = goes_on _ _ _ _ _ _ _ _ c.in_ok-give_operands.ensures (rw c.only.ensures at c.give_key.ensures)
