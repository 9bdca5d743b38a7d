use Rattle.vlt_rows.proofs.Taken.{stops_first, goes_on}
use Rattle.vlt_rows.proofs.statements.give_focus.Goals as goal

pub returns-in_err-give_guard : goal.returns-in_err-give_guard
returns-in_err-give_guard g c = stops_first _ _ _ _ _ _ _ _ _ c.from_residual.ensures.1 c.in_err-give_guard.ensures

pub returns : goal.returns
returns g c = goes_on _ _ _ _ _ _ _ _ c.in_ok-give_guard.ensures c.give_focused.ensures
