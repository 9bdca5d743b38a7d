use Rattle.vlt_rows.proofs.Collected.{collected}
use Rattle.vlt_rows.proofs.Fitting.{unlisted}
use Rattle.vlt_rows.proofs.list.focus_end_list.Goals as goal

pub returns-in_err-give_focus_end : goal.returns-in_err-give_focus_end
returns-in_err-give_focus_end c = unlisted _ _ _ _ _ _ _ c.from_residual.ensures.1 c.in_err-give_focus_end.ensures

pub returns : goal.returns
returns c = collected _ _ _ c.new-list.ensures c.in_ok-give_focus_end.ensures
