-- The plain expression that each form of the code stands for.
use Rattle.std.proofs.Common.{◌≡◌, sym, ap, ◌∙◌}
use Rattle.vlt_ops.specs.declared.Op.{Op}
use Rattle.c_syntax.specs.declared.program.CVar.{CVar}
use Rattle.c_syntax.specs.declared.program.CExpr.{CExpr}
use Rattle.c_syntax.specs.declared.program.CExpr.TheVariants as V
use Rattle.c_syntax.specs.declared.program.CExpr.TheOpen.{CExpr-F}
use Rattle.c_syntax.specs.declared.program.CExpr.TheFolds.{fold-roll-CExpr}
use Rattle.c_syntax.specs.C as c
use Rattle.c_syntax.specs.View.{expr_step, expr_of}

pub var_is : (v : CVar) → expr_of (V.Var v) ≡ c.variable v
var_is v = ap expr_of (sym (V.rolls-Var v)) ∙ fold-roll-CExpr c.Expr expr_step (CExpr-F.Var v)

pub unary_is : (o : Op) (e : CExpr) → expr_of (V.Unary o e) ≡ c.unary o (expr_of e)
unary_is o e = ap expr_of (sym (V.rolls-Unary o e)) ∙ fold-roll-CExpr c.Expr expr_step (CExpr-F.Unary o e)

pub binary_is : (o : Op) (a b : CExpr) → expr_of (V.Binary o a b) ≡ c.binary o (expr_of a) (expr_of b)
binary_is o a b = ap expr_of (sym (V.rolls-Binary o a b)) ∙ fold-roll-CExpr c.Expr expr_step (CExpr-F.Binary o a b)

pub var_at : (x : CExpr) (v : CVar) → x ≡ V.Var v → expr_of x ≡ c.variable v
var_at x v e = ap expr_of e ∙ var_is v

pub unary_at : (x : CExpr) (o : Op) (a y : CExpr) → x ≡ V.Unary o a → y ≡ a → expr_of x ≡ c.unary o (expr_of y)
unary_at x o a y e f = ap expr_of e ∙ unary_is o a ∙ ap (λ z. c.unary o (expr_of z)) (sym f)

pub binary_at : (x : CExpr) (o : Op) (a b y z : CExpr) → x ≡ V.Binary o a b → y ≡ a → z ≡ b → expr_of x ≡ c.binary o (expr_of y) (expr_of z)
binary_at x o a b y z e f g = ap expr_of e ∙ binary_is o a b ∙ ap (λ u. c.binary o (expr_of u) (expr_of b)) (sym f) ∙ ap (λ u. c.binary o (expr_of y) (expr_of u)) (sym g)
