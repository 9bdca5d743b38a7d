use Rattle.vlt_core.proofs.Views.{binary_expr}
use Rattle.vlt_rows.proofs.Taken.{stops_first, goes_on}
use Rattle.vlt_rows.proofs.expr.+give_expr.Goals as goal

pub returns-in_err-give_expr-in-Bin : goal.returns-in_err-give_expr-in-Bin
returns-in_err-give_expr-in-Bin g t c =
    let first = rw c.get-in-Bin.ensures at c.in_err-give_expr-in-Bin.ensures in
    rw (binary_expr _ _ _ _ c.in-Bin.is) (stops_first _ _ _ _ _ _ _ _ _ c.from_residual.ensures.1 first)

pub returns-in_ok-give_expr-in-Bin : goal.returns-in_ok-give_expr-in-Bin
returns-in_ok-give_expr-in-Bin g t c =
    let first = rw c.get-in-Bin.ensures at c.in_ok-give_expr-in-Bin.ensures in
    let second = rw c.get-in-Bin-2.ensures at c.give_expr-in-Bin-2.ensures in
    rw (binary_expr _ _ _ _ c.in-Bin.is) (goes_on _ _ _ _ _ _ _ _ first second)
