use Rattle.std.proofs.Common.{◌≡◌, ◌++◌, drop, map}
use Rattle.vlt_syntax.specs.View.{expr_of}
use Rattle.vlt_syntax_copies.specs.Mapped as m
use Rattle.vlt_syntax_copies.specs.Shifted as s
use Rattle.vlt_syntax_copies.proofs.exprs.shifted_exprs.Given as goal

abbrev pub invariant-loop-expr : goal.invariant-loop-expr
invariant-loop-expr l = map expr_of l.made ++ map (m.mapped_expr (s.shifted_span l.by)) (map expr_of (drop l.expr-index l.exprs)) ≡ map (m.mapped_expr (s.shifted_span l.by)) (map expr_of l.exprs)
