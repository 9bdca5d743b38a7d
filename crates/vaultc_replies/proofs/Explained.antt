-- What `explain` says, from what it has of a fault.
use Rattle.std.proofs.Common.{◌≡◌, ◌<◌, ℕ, zero, suc, List, [], ◌∷◌, ◌++◌, map, length, get_or, arith, Option, Some, refl, sym, ap, ap₂, ◌∙◌, subst}
use Rattle.std.specs.Prelude.{slice_get}
use Rattle.vlt_core.specs.Core.{Func, Program}
use Rattle.vlt_core.specs.Faults.{FlowFault}
use Rattle.vlt_core.specs.View.{program_of, func_of}
use Rattle.vlt_core.specs.Witness as w
use Rattle.vlt_core.specs.Witness.{IsWitness}
use Rattle.vlt_core.specs.declared.held.FaultKind as kinds
use Rattle.vlt_core.specs.declared.held.FaultKind.TheVariants as variant
use Rattle.vlt_core.specs.declared.held.FlowFault as code
use Rattle.vlt_core.specs.declared.program.Program as core
use Rattle.vlt_core.specs.declared.program.Func as funcs
use Rattle.vlt_core.specs.FaultView.{kind_of}
use Rattle.vlt_check.specs.Checks.{fault_of}
use Rattle.vlt_fit_laws.specs.Fit.{IsTextTree, ProgramsAreFit}
use Rattle.vlt_reports.specs.Reports.{fault_line, instance_text, paths_text}
use Rattle.vlt_syntax.specs.Tree.{Tree}
use Rattle.vlt_verdict.proofs.Single.{fit_program}
use Rattle.vlt_verdict.specs.declared.Verdict as shown
use Rattle.vlt_verdict.specs.declared.Verdict.TheVariants.{Broken, Exceeded, Faulty, Accepted}
use Rattle.vlt_verdict.specs.Seen.{IsSeenAs}
use Rattle.vlt_verdict.specs.Verdicts.{Verdict, faulty, IsVerdictOf}
use Rattle.vaultc_runs.specs.declared.status.TheConstants.{NOT_ACCEPTED}
use Rattle.vaultc_runs.specs.Lines.{Reply, reply}
use Rattle.vaultc_replies.specs.Judged.{IsJudged, IsShowable}
use Rattle.vaultc_runs.specs.Texts.{IsTextOf}
use Rattle.vaultc_replies.specs.Variables.{variable_in}
use Rattle.vaultc_replies.specs.Verdicts.{check_reply, explained_reply, IsExplained}
use Rattle.vaultc_replies.proofs.OfTexts.{program_of_text}

-- ---- faults

-- a fault of this kind is told as it is seen
pub kind_same : (x : code.FlowFault) (k : kinds.FaultKind) → kind_of k ≡ (fault_of (record x { kind = k })).kind
kind_same x (variant.Row found wanted) = refl
kind_same x (variant.Join present) = refl

-- the function that the code looks up is the one of that number
pub func_there : (fs : List funcs.Func) (i : ℕ) (x d : funcs.Func) → i < length fs → x ≡ get_or fs i d → slice_get (map func_of fs) i ≡ Some (func_of x)
func_there [] i x d lt is = absurd (omega (arith, lt))
func_there (f ∷ fs) zero x d lt is = ap (λ y. Some (func_of y)) (sym is)
func_there (f ∷ fs) (suc i) x d lt is = func_there fs i x d (omega (arith, lt)) is

same_func : (p : Program) (n : ℕ) (f g : Func) → slice_get p.fns n ≡ Some f → slice_get p.fns n ≡ Some g → f ≡ g
same_func p n f g a b = cc

-- the line of the fault and its paths are what `explain` says of it
pub fault_explained : (text : List ℕ) (t : Tree) (p : Program) (f g : Func) (x : FlowFault) (first : List w.Choice) (second : Option (List w.Choice)) (line paths out : List ℕ) →
    slice_get p.fns x.function ≡ Some f → slice_get p.fns x.function ≡ Some g → IsWitness p x first second →
    line ≡ fault_line text p f x.at x.tok x.kind → paths ≡ paths_text text p f (instance_text p f (variable_in t x.function) x.origin) first second → out ≡ line ++ paths →
    IsExplained text t (faulty p g x) (reply NOT_ACCEPTED out)
fault_explained text t p f g x first second line paths out there also shows is_line is_paths is_out =
    let same : f ≡ g = same_func p x.function f g there also in
    let whole : reply NOT_ACCEPTED out ≡ explained_reply text (variable_in t x.function) p f x first second = ap (reply NOT_ACCEPTED) (is_out ∙ ap₂ (λ a b. a ++ b) is_line is_paths) in
    (first, second, shows, subst (λ h. reply NOT_ACCEPTED out ≡ explained_reply text (variable_in t x.function) p h x first second) same whole)

-- ---- verdicts

no_fault : (text : List ℕ) (t : Tree) (v s : Verdict) (r : Reply) → s ≡ v → IsExplained text t v r → IsExplained text t s r
no_fault text t v s r same is = subst (λ v. IsExplained text t v r) (sym same) is

-- what is said of a verdict without a fault is what `check` says
pub check_explains : (text : List ℕ) (t : Tree) (v : shown.Verdict) (s : Verdict) (r : Reply) → ((p : core.Program) (x : code.FlowFault) → v ≡ Faulty p x → ⊥) → IsSeenAs v s →
    r ≡ check_reply text s → IsExplained text t s r
check_explains text t (Broken rule at) s r no_faulty seen e = no_fault text t _ s r seen (e ∙ ap (check_reply text) seen)
check_explains text t (Exceeded n) s r no_faulty seen e = no_fault text t _ s r seen (e ∙ ap (check_reply text) seen)
check_explains text t (Faulty p x) s r no_faulty seen e = absurd (no_faulty p x refl)
check_explains text t (Accepted p) s r no_faulty seen e = no_fault text t _ s r seen (e ∙ ap (check_reply text) seen)

-- the fault of a verdict on a text's tree can be shown
pub showable : ProgramsAreFit → (bytes : List ℕ) (t : Tree) (v : shown.Verdict) → IsTextOf t bytes → IsTextTree t → IsJudged t v → IsShowable v
showable law bytes t (Broken rule at) reads tree judged = tt
showable law bytes t (Exceeded n) reads tree judged = tt
showable law bytes t (Accepted p) reads tree judged = tt
showable law bytes t (Faulty p x) reads tree (s, is, (f, there, same)) =
    let of_faulty : IsVerdictOf t (faulty (program_of p) f (fault_of x)) = subst (IsVerdictOf t) same is in
    record {
      texts = program_of_text bytes t (program_of p) reads tree of_faulty.0;
      well_formed = (fit_program law t (program_of p) tree of_faulty.0).well_formed;
      first = of_faulty.1.first;
    }
