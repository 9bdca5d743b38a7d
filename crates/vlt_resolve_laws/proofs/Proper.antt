-- The expressions of an elaborated program are proper: operators have as many operands as they want, and numbers are those
-- that a text can write, where the tree's are.
use Rattle.std.proofs.Common.{◌≡◌, ℕ, suc, ◌≤◌, ℤ, pos, true, ◌&&◌, List, [], ◌∷◌, refl, ap, ◌∙◌, arith}
use Rattle.std.proofs.lemmas.Bool.Decides.{nat_tests}
use Rattle.vlt_ops.specs.declared.Op.{Op}
use Rattle.vlt_ops.specs.declared.Op.TheVariants as op
use Rattle.vlt_ops.specs.Operator.{row_of}
use Rattle.vlt_tokens.specs.Lexemes.{max_number}
use Rattle.vlt_syntax.specs.Tokens.{Token}
use Rattle.vlt_syntax.specs.Tree as s
use Rattle.vlt_syntax.specs.Tree.{Tree}
use Rattle.vlt_syntax.specs.Lists.{Each}
use Rattle.vlt_syntax.specs.Spelling.{expr_then, spelling}
use Rattle.vlt_syntax.specs.Grammar.{BindsFrom, level}
use Rattle.vlt_syntax_laws.specs.Numbers.{IsNumbered, HasNumbers}
use Rattle.vlt_syntax_laws.proofs.Tokenwise.{after_expr}
use Rattle.vlt_core.specs.Core.{Program}
use Rattle.vlt_core.specs.Proper.{is_prefix, is_binary, has_arities, is_literal, has_literals, is_proper, HasArities, HasProperBodies}
use Rattle.vlt_kinds_types.specs.Kinds.{Kinds}
use Rattle.vlt_resolve_exprs.specs.Scopes.{Scope}
use Rattle.vlt_resolve_exprs.specs.Exprs.{core_expr}
use Rattle.vlt_resolve_laws.specs.Elaborated.{IsElaborated}
use Rattle.vlt_resolve_laws.proofs.Passing.{both, PassExprs, all_pass}

-- ---- operators

two_one : ◌≡◌ {A = ℕ} 2 1 → ⊥
two_one e = omega (arith, e)

one_two : ◌≡◌ {A = ℕ} 1 2 → ⊥
one_two e = omega (arith, e)

prefix_is : (o : Op) → (row_of o).arity ≡ 1 → is_prefix o ≡ true
prefix_is op.Negate e = refl
prefix_is op.Not e = refl
prefix_is op.Multiply e = absurd (two_one e)
prefix_is op.Divide e = absurd (two_one e)
prefix_is op.Remainder e = absurd (two_one e)
prefix_is op.Add e = absurd (two_one e)
prefix_is op.Subtract e = absurd (two_one e)
prefix_is op.Less e = absurd (two_one e)
prefix_is op.LessOrEqual e = absurd (two_one e)
prefix_is op.Greater e = absurd (two_one e)
prefix_is op.GreaterOrEqual e = absurd (two_one e)
prefix_is op.Equal e = absurd (two_one e)
prefix_is op.NotEqual e = absurd (two_one e)
prefix_is op.BitAnd e = absurd (two_one e)
prefix_is op.BitXor e = absurd (two_one e)
prefix_is op.BitOr e = absurd (two_one e)
prefix_is op.And e = absurd (two_one e)
prefix_is op.Or e = absurd (two_one e)

binary_is : (o : Op) → (row_of o).arity ≡ 2 → is_binary o ≡ true
binary_is op.Negate e = absurd (one_two e)
binary_is op.Not e = absurd (one_two e)
binary_is op.Multiply e = refl
binary_is op.Divide e = refl
binary_is op.Remainder e = refl
binary_is op.Add e = refl
binary_is op.Subtract e = refl
binary_is op.Less e = refl
binary_is op.LessOrEqual e = refl
binary_is op.Greater e = refl
binary_is op.GreaterOrEqual e = refl
binary_is op.Equal e = refl
binary_is op.NotEqual e = refl
binary_is op.BitAnd e = refl
binary_is op.BitXor e = refl
binary_is op.BitOr e = refl
binary_is op.And e = refl
binary_is op.Or e = refl

arities_right : (kinds : Kinds) (scope : Scope) (e : s.Expr) (least : ℕ) → BindsFrom least e → has_arities (core_expr kinds scope e) ≡ true
arities_right kinds scope (s.number z at) least g = refl
arities_right kinds scope (s.true at) least g = refl
arities_right kinds scope (s.false at) least g = refl
arities_right kinds scope (s.variable x) least g = refl
arities_right kinds scope (s.field x f) least g = refl
arities_right kinds scope (s.group e at) least g = arities_right kinds scope e 0 g
arities_right kinds scope (s.unary o e at) least g =
    both (is_prefix o) (has_arities (core_expr kinds scope e)) (prefix_is o g.0) (arities_right kinds scope e (level o) g.2)
arities_right kinds scope (s.binary o l r at) least g =
    both (is_binary o) (has_arities (core_expr kinds scope l) && has_arities (core_expr kinds scope r)) (binary_is o g.0)
    (both (has_arities (core_expr kinds scope l)) (has_arities (core_expr kinds scope r)) (arities_right kinds scope l (level o) g.2) (arities_right kinds scope r (suc (level o)) g.3))

-- ---- numbers

literal_right : (z : ℤ) (n : ℕ) → z ≡ pos n → n ≤ max_number → is_literal z ≡ true
literal_right z n e h = ap is_literal e ∙ small n h
  where
    small : (n : ℕ) → n ≤ max_number → is_literal (pos n) ≡ true
    small n h = grind (arith, nat_tests)

literals_right : (kinds : Kinds) (scope : Scope) (e : s.Expr) (rest : List Token) → Each IsNumbered (expr_then e rest) → has_literals (core_expr kinds scope e) ≡ true
literals_right kinds scope (s.number z at) rest h = literal_right z h.0.0 h.0.1 h.0.2
literals_right kinds scope (s.true at) rest h = refl
literals_right kinds scope (s.false at) rest h = refl
literals_right kinds scope (s.variable x) rest h = refl
literals_right kinds scope (s.field x f) rest h = refl
literals_right kinds scope (s.group e at) rest h = literals_right kinds scope e _ h.1
literals_right kinds scope (s.unary o e at) rest h = literals_right kinds scope e rest h.1
literals_right kinds scope (s.binary o l r at) rest h =
    both (has_literals (core_expr kinds scope l)) (has_literals (core_expr kinds scope r)) (literals_right kinds scope l _ h)
    (literals_right kinds scope r rest (after_expr IsNumbered l _ h).1)

proper_right : PassExprs IsNumbered is_proper
proper_right kinds scope e g h =
    both (has_arities (core_expr kinds scope e)) (has_literals (core_expr kinds scope e)) (arities_right kinds scope e 0 g.0) (literals_right kinds scope e h.0 h.1)

-- ---- programs

abbrev IsAny : Token → Type 0
IsAny x = Unit {0}

all_any : (ts : List Token) → Each IsAny ts
all_any [] = tt
all_any (x ∷ xs) = (tt, all_any xs)

pub elaborated_arities : (t : Tree) (kinds : Kinds) (p : Program) → IsElaborated t kinds p → HasArities p
elaborated_arities t kinds p e =
    all_pass IsAny has_arities (λ v. refl) (λ kinds scope e g h. arities_right kinds scope e 0 g.0) t kinds p e.tree.0 (all_any (spelling t)) e.gives

pub elaborated_proper : (t : Tree) (kinds : Kinds) (p : Program) → IsElaborated t kinds p → HasNumbers t → HasProperBodies p
elaborated_proper t kinds p e has = all_pass IsNumbered is_proper (λ v. refl) proper_right t kinds p e.tree.0 has e.gives
