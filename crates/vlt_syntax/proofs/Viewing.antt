-- What stands for an expression that is made of others.
use Rattle.std.proofs.Common.{◌≡◌, sym, ap, ◌∙◌}
use Rattle.vlt_base.specs.declared.places.Span.{Span}
use Rattle.vlt_ops.specs.declared.Op.{Op}
use Rattle.vlt_syntax.specs.declared.tree.Expr.{Expr}
use Rattle.vlt_syntax.specs.declared.tree.Expr.TheVariants.{Unary, rolls-Unary, Binary, rolls-Binary}
use Rattle.vlt_syntax.specs.declared.tree.Expr.TheOpen.{Expr-F}
use Rattle.vlt_syntax.specs.declared.tree.Expr.TheFolds.{fold-roll-Expr, fold-roll-Operands}
use Rattle.vlt_syntax.specs.declared.tree.Operands.{roll-Operands}
use Rattle.vlt_syntax.specs.declared.tree.Operands.{Operands}
use Rattle.vlt_syntax.specs.declared.tree.Block.{Block}
use Rattle.vlt_syntax.specs.declared.tree.Else.{Else}
use Rattle.vlt_syntax.specs.declared.tree.Stmt.TheVariants.{While, rolls-While}
use Rattle.vlt_syntax.specs.declared.tree.Else.TheOpen.{Stmt-F}
use Rattle.vlt_syntax.specs.declared.tree.Else.TheFolds.{fold-roll-Stmt, fold-roll-If}
use Rattle.vlt_syntax.specs.declared.tree.If.{roll-If}
use Rattle.vlt_syntax.specs.Tree as s
use Rattle.vlt_syntax.specs.View.{ArmView, OperandsView, expr_step, operands_step, expr_of, block_of, else_of, stmt_of, if_of, else_step, stmt_step, arm_step, block_step, if_step}

pub unary_seen : (o : Op) (e : Expr) (at : Span) → expr_of (Unary o e at) ≡ s.unary o (expr_of e) at
unary_seen o e at = ap expr_of (sym (rolls-Unary o e at)) ∙ fold-roll-Expr s.Expr OperandsView expr_step operands_step (Expr-F.Unary o e at)

pub binary_seen : (o : Op) (a b : Expr) (at : Span) → expr_of (Binary o (roll-Operands (record { left = a; right = b })) at) ≡ s.binary o (expr_of a) (expr_of b) at
binary_seen o a b at =
    ap expr_of (sym (rolls-Binary o both at)) ∙ fold-roll-Expr s.Expr OperandsView expr_step operands_step (Expr-F.Binary o both at) ∙
    ap (λ x. s.binary o x.0 x.1 at) (fold-roll-Operands s.Expr OperandsView expr_step operands_step (record { left = a; right = b }))
  where
    both : Operands
    both = roll-Operands (record { left = a; right = b })

pub while_seen : (e : Expr) (b : Block) (at : Span) → stmt_of (While e b at) ≡ s.loop (expr_of e) (block_of b) at
while_seen e b at = ap stmt_of (sym (rolls-While e b at)) ∙ fold-roll-Stmt s.Else s.Stmt ArmView s.Block s.If else_step stmt_step arm_step block_step if_step (Stmt-F.While e b at)

pub if_seen : (e : Expr) (b : Block) (o : Else) (at : Span) → if_of (roll-If (record { condition = e; then_block = b; otherwise = o; at = at })) ≡ s.choice (expr_of e) (block_of b) (else_of o) at
if_seen e b o at = fold-roll-If s.Else s.Stmt ArmView s.Block s.If else_step stmt_step arm_step block_step if_step (record { condition = e; then_block = b; otherwise = o; at = at })
