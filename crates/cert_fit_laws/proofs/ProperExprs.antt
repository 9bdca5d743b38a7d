-- Expressions that fit rows are proper.
use Rattle.std.proofs.Common.{◌≡◌, ◌≤◌, ℕ, pos, negsuc, true, not, ◌&&◌, refl, ap, ◌∙◌, arith}
use Rattle.std.specs.Prelude.{nat_le}
use Rattle.std.proofs.lemmas.Bool.{and_from, le-leb}
use Rattle.vlt_ops.specs.declared.Op.{Op}
use Rattle.vlt_ops.specs.declared.Op.TheVariants as o
use Rattle.vlt_core.specs.Core as core
use Rattle.vlt_core.specs.Core.{Expr}
use Rattle.vlt_core.specs.Proper.{is_prefix, is_binary, has_arities, has_literals, is_proper}
use Rattle.cert_rows.specs.Expressions as row
use Rattle.cert_rows.specs.Expressions.{FitsExpr}

pub prefix_is : (x : Op) → is_prefix x ≡ row.is_prefix x
prefix_is o.Negate = refl
prefix_is o.Not = refl
prefix_is o.Multiply = refl
prefix_is o.Divide = refl
prefix_is o.Remainder = refl
prefix_is o.Add = refl
prefix_is o.Subtract = refl
prefix_is o.Less = refl
prefix_is o.LessOrEqual = refl
prefix_is o.Greater = refl
prefix_is o.GreaterOrEqual = refl
prefix_is o.Equal = refl
prefix_is o.NotEqual = refl
prefix_is o.BitAnd = refl
prefix_is o.BitXor = refl
prefix_is o.BitOr = refl
prefix_is o.And = refl
prefix_is o.Or = refl

pub binary_is : (x : Op) → is_binary x ≡ not (row.is_prefix x)
binary_is o.Negate = refl
binary_is o.Not = refl
binary_is o.Multiply = refl
binary_is o.Divide = refl
binary_is o.Remainder = refl
binary_is o.Add = refl
binary_is o.Subtract = refl
binary_is o.Less = refl
binary_is o.LessOrEqual = refl
binary_is o.Greater = refl
binary_is o.GreaterOrEqual = refl
binary_is o.Equal = refl
binary_is o.NotEqual = refl
binary_is o.BitAnd = refl
binary_is o.BitXor = refl
binary_is o.BitOr = refl
binary_is o.And = refl
binary_is o.Or = refl

arities : (e : Expr) → FitsExpr e → has_arities e ≡ true
arities (core.number z) h = refl
arities (core.truth b) h = refl
arities (core.var v) h = refl
arities (core.field x i) h = refl
arities (core.unary x a) h = and_from (is_prefix x) (has_arities a) (prefix_is x ∙ h.2) (arities a h.0)
arities (core.binary x a b) h =
    and_from (is_binary x) (has_arities a && has_arities b) (binary_is x ∙ ap not h.3) (and_from (has_arities a) (has_arities b) (arities a h.0) (arities b h.1))

literals : (e : Expr) → FitsExpr e → has_literals e ≡ true
literals (core.number (pos n)) h = and_from (nat_le 0 n) (nat_le n 9223372036854775807) (le-leb 0 n (low n)) (le-leb n 9223372036854775807 h)
  where
    low : (n : ℕ) → 0 ≤ n
    low n = omega arith
literals (core.number (negsuc n)) h = absurd h
literals (core.truth b) h = refl
literals (core.var v) h = refl
literals (core.field x i) h = refl
literals (core.unary x a) h = literals a h.0
literals (core.binary x a b) h = and_from (has_literals a) (has_literals b) (literals a h.0) (literals b h.1)

pub proper : (e : Expr) → FitsExpr e → is_proper e ≡ true
proper e h = and_from (has_arities e) (has_literals e) (arities e h) (literals e h)
