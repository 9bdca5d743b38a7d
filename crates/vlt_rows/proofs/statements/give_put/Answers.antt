use Rattle.vlt_rows.proofs.Taken.{stops_first, goes_on}
use Rattle.vlt_rows.proofs.statements.give_put.Goals as goal

pub returns-in_err-give_expr : goal.returns-in_err-give_expr
returns-in_err-give_expr g c = stops_first _ _ _ _ _ _ _ _ _ c.from_residual.ensures.1 c.in_err-give_expr.ensures

pub returns : goal.returns
returns g c = goes_on _ _ _ _ _ _ _ _ c.in_ok-give_expr.ensures c.give_touch.ensures
