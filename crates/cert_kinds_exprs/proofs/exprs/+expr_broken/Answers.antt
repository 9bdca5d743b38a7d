use Rattle.vlt_core.specs.View.{program_of, func_of, expr_of}
use Rattle.vlt_core.proofs.Views.{unary_expr, binary_expr}
use Rattle.cert_kinds_exprs.specs.Scopes.{ids_of}
use Rattle.cert_kinds_exprs.proofs.Parts.{unary_broken, binary_broken}
use Rattle.cert_kinds_exprs.proofs.exprs.+expr_broken.Goals as goal

pub returns-in-Un : goal.returns-in-Un
returns-in-Un t c =
    let first = rw c.get.ensures at c.expr_broken.ensures in
    let second = rw c.get-in-Un.ensures at c.operands_broken.ensures in
    rw (unary_expr _ _ _ c.in-Un.is, c.lesser.ensures) (unary_broken (program_of c.args.p.now) (func_of c.args.f.now) (ids_of c.args.ids.now) c.in-Un.op (expr_of c.in-Un.a) first second)

pub returns-in-Bin : goal.returns-in-Bin
returns-in-Bin t c =
    let first = rw c.get-in-Bin.ensures at c.expr_broken-in-Bin.ensures in
    let second = rw c.get-in-Bin-2.ensures at c.expr_broken-in-Bin-2.ensures in
    let third = rw c.get-in-Bin-3.ensures at c.operands_broken-in-Bin.ensures in
    let fourth = rw (c.get-in-Bin-4.ensures, c.get-in-Bin-5.ensures) at c.right_broken.ensures in
    rw (binary_expr _ _ _ _ c.in-Bin.is, c.lesser-in-Bin-3.ensures, c.lesser-in-Bin-2.ensures, c.lesser-in-Bin.ensures)
    (binary_broken (program_of c.args.p.now) (func_of c.args.f.now) (ids_of c.args.ids.now) c.in-Bin.op (expr_of c.in-Bin.a) (expr_of c.in-Bin.b) first second third fourth)
