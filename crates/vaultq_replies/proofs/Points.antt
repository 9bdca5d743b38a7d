-- What is said of the points of a verdict's program, and then of the verdict, is the answer of `keys`.
use Rattle.std.proofs.Common.{◌≡◌, ℕ, List, refl, sym, subst}
use Rattle.vlt_core.specs.Core.{Program}
use Rattle.vlt_core.specs.View.{program_of}
use Rattle.vlt_check.specs.Checks.{fault_of}
use Rattle.vlt_syntax.specs.Tree.{Tree}
use Rattle.vlt_verdict.specs.Seen.{IsSeenAs}
use Rattle.vlt_verdict.specs.Verdicts.{Verdict, faulty, accepted}
use Rattle.vlt_verdict.specs.declared.Verdict as shown
use Rattle.vlt_verdict.specs.declared.Verdict.TheVariants.{Broken, Exceeded, Faulty, Accepted}
use Rattle.vaultc_runs.specs.Lines.{Reply}
use Rattle.vaultc_replies.specs.Verdicts.{check_reply}
use Rattle.vaultq_replies.specs.Listable.{HasProgram}
use Rattle.vaultq_replies.specs.Replies.{ArePointsBefore, IsAnswerToKeys}

-- the line is that of `check`
abbrev IsOfCheck : (text : List ℕ) → shown.Verdict → Reply → Type 0
IsOfCheck text j last = (v : Verdict) → IsSeenAs j v → last ≡ check_reply text v

pub with_points : (text : List ℕ) (t : Tree) (j : shown.Verdict) (p : Program) (last a : Reply) → HasProgram j p → IsOfCheck text j last → ArePointsBefore text t p last.text a
    → (v : Verdict) → IsSeenAs j v → IsAnswerToKeys text t v a
with_points text t (Broken rule at) p last a has is points v seen = absurd has
with_points text t (Exceeded n) p last a has is points v seen = absurd has
with_points text t (Faulty q x) p last a has is points v (f, there, e) =
    let w = faulty (program_of q) f (fault_of x) in
    subst (λ u. IsAnswerToKeys text t u a) (sym e) (subst (λ o. ArePointsBefore text t o (check_reply text w).text a) has
    (subst (λ l. ArePointsBefore text t p l.text a) (is w (f, there, refl)) points))
with_points text t (Accepted q) p last a has is points v e =
    let w = accepted (program_of q) in
    subst (λ u. IsAnswerToKeys text t u a) (sym e) (subst (λ o. ArePointsBefore text t o (check_reply text w).text a) has
    (subst (λ l. ArePointsBefore text t p l.text a) (is w refl) points))
