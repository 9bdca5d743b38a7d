-- The expressions of an elaborated program nest no deeper than those of its tree.
use Rattle.std.proofs.Common.{ℕ, suc, ◌≤◌, List, [], ◌∷◌, refl, arith}
use Rattle.std.proofs.lemmas.Bool.{le-leb}
use Rattle.std.proofs.Math.Nat.{max-le, le-max_left, le-max_right}
use Rattle.vlt_syntax.specs.Tokens.{Token}
use Rattle.vlt_syntax.specs.Tree as s
use Rattle.vlt_syntax.specs.Tree.{Tree}
use Rattle.vlt_syntax.specs.Lists.{Each}
use Rattle.vlt_syntax.specs.Spelling.{spelling}
use Rattle.vlt_syntax.specs.Grammar as grammar
use Rattle.vlt_core.specs.Core.{Program}
use Rattle.vlt_core.specs.Proper.{AllPass}
use Rattle.vlt_kinds_types.specs.Kinds.{Kinds}
use Rattle.vlt_resolve_exprs.specs.Scopes.{Scope}
use Rattle.vlt_resolve_exprs.specs.Exprs.{core_expr}
use Rattle.vlt_resolve_laws.specs.Elaborated.{IsElaborated}
use Rattle.vlt_resolve_laws.proofs.Passing.{PassExprs, all_pass}
use Rattle.cert_rows.specs.Expressions as row
use Rattle.cert_fit_laws.specs.Limits.{is_shallow}

no_deeper : (kinds : Kinds) (scope : Scope) (e : s.Expr) → row.depth (core_expr kinds scope e) ≤ grammar.depth e
no_deeper kinds scope (s.number z at) = omega arith
no_deeper kinds scope (s.true at) = omega arith
no_deeper kinds scope (s.false at) = omega arith
no_deeper kinds scope (s.variable x) = omega arith
no_deeper kinds scope (s.field x f) = omega arith
no_deeper kinds scope (s.group e at) = let less = no_deeper kinds scope e in omega arith
no_deeper kinds scope (s.unary o e at) = let less = no_deeper kinds scope e in omega arith
no_deeper kinds scope (s.binary o l r at) =
    one_more (max-le (up (no_deeper kinds scope l) (le-max_left (grammar.depth l) (grammar.depth r))) (up (no_deeper kinds scope r) (le-max_right (grammar.depth l) (grammar.depth r))))
  where
    up : {a b c : ℕ} → a ≤ b → b ≤ c → a ≤ c
    up x y = omega arith

    one_more : {a b : ℕ} → a ≤ b → suc a ≤ suc b
    one_more x = omega arith

-- nothing is asked of the tokens
abbrev IsAny : Token → Type 0
IsAny x = Unit {0}

all_any : (ts : List Token) → Each IsAny ts
all_any [] = tt
all_any (x ∷ xs) = (tt, all_any xs)

shallow_right : PassExprs IsAny is_shallow
shallow_right kinds scope e g h = le-leb (row.depth (core_expr kinds scope e)) 64 (up (no_deeper kinds scope e) g.1)
  where
    up : {a b c : ℕ} → a ≤ b → b ≤ c → a ≤ c
    up x y = omega arith

pub all_shallow : (t : Tree) (kinds : Kinds) (p : Program) → IsElaborated t kinds p → AllPass is_shallow p
all_shallow t kinds p e = all_pass IsAny is_shallow (λ v. refl) shallow_right t kinds p e.tree.0 (all_any (spelling t)) e.gives
