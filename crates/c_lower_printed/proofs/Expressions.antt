-- The expressions of an elaborated program are shallow.
use Rattle.std.proofs.Common.{◌≡◌, suc, max, nat_le, Bool, refl, ap, ◌∙◌, subst}
use Rattle.vlt_syntax.specs.Tree.{Tree}
use Rattle.vlt_core.specs.Core as core
use Rattle.vlt_core.specs.Core.{Expr, Program}
use Rattle.vlt_core.specs.Proper.{AllPass}
use Rattle.vlt_kinds_types.specs.Kinds.{Kinds}
use Rattle.vlt_resolve_laws.specs.Elaborated.{IsElaborated}
use Rattle.cert_rows.specs.Expressions as row
use Rattle.cert_fit_laws.specs.Limits as limits
use Rattle.cert_text_laws.proofs.Shallow.{all_shallow}
use Rattle.c_lower_runs.specs.Texts.Printable.{depth, is_shallow}

-- the depth that certificates have a limit on is the same
same_depth : (e : Expr) → row.depth e ≡ depth e
same_depth (core.number z) = refl
same_depth (core.truth b) = refl
same_depth (core.var v) = refl
same_depth (core.field x i) = refl
same_depth (core.unary o e) = ap suc (same_depth e)
same_depth (core.binary o a b) = ap (λ n. suc (max n (row.depth b))) (same_depth a) ∙ ap (λ n. suc (max (depth a) n)) (same_depth b)

same_tests : (f g : Expr → Bool) → ((e : Expr) → f e ≡ g e) → f ≡ g
same_tests f g same = λ i e. same e i

pub expressions_shallow : (t : Tree) (kinds : Kinds) (p : Program) → IsElaborated t kinds p → AllPass is_shallow p
expressions_shallow t kinds p e =
    subst (λ test. AllPass test p) (same_tests limits.is_shallow is_shallow (λ e. ap (λ n. nat_le n 64) (same_depth e))) (all_shallow t kinds p e)
