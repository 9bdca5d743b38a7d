use Rattle.vlt_rows.proofs.Collected.{collected}
use Rattle.vlt_rows.proofs.Fitting.{unlisted}
use Rattle.vlt_rows.proofs.list.expr_list.Goals as goal

pub returns-in_err-give_expr : goal.returns-in_err-give_expr
returns-in_err-give_expr c = unlisted _ _ _ _ _ _ _ c.from_residual.ensures.1 c.in_err-give_expr.ensures

pub returns : goal.returns
returns c = collected _ _ _ c.new-list.ensures c.in_ok-give_expr.ensures
