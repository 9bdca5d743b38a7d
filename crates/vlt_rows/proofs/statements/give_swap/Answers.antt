use Rattle.vlt_rows.proofs.Taken.{stops_first, goes_on}
use Rattle.vlt_rows.proofs.statements.give_swap.Goals as goal

pub returns-in_err-give_touch : goal.returns-in_err-give_touch
returns-in_err-give_touch g c = stops_first _ _ _ _ _ _ _ _ _ c.from_residual.ensures.1 c.in_err-give_touch.ensures

pub returns : goal.returns
returns g c = goes_on _ _ _ _ _ _ _ _ c.in_ok-give_touch.ensures c.give_row.ensures
