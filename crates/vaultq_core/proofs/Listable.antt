-- All faults and points of a text's program can be told, faults with their paths.
use Rattle.std.proofs.Common.{◌≡◌, ◌≤◌, ◌^◌, ℕ, List, length, false, Option, Some, slice_get, refl, subst, arith}
use Rattle.vlt_syntax.specs.Tree.{Tree}
use Rattle.vlt_core.specs.Core.{Func, Program}
use Rattle.vlt_core.specs.View as core
use Rattle.vlt_core.specs.Instances.{instance, IsOrigin}
use Rattle.vlt_faults.specs.Judge.Faulty.{IsUntold, no_flow, no_start, no_number, HasUntold}
use Rattle.vlt_fit_laws.specs.Fit.{IsTextTree, ProgramsAreFit}
use Rattle.vlt_check.specs.Checks.{fault_of}
use Rattle.vlt_verdict.proofs.Single.{fit_program}
use Rattle.vlt_verdict.specs.Seen.{IsSeenAs}
use Rattle.vlt_verdict.specs.Verdicts.{faulty, accepted, IsVerdictOf}
use Rattle.vlt_verdict.specs.declared.Verdict.{Verdict}
use Rattle.vlt_verdict.specs.declared.Verdict.TheVariants.{Broken, Exceeded, Faulty, Accepted}
use Rattle.vlt_all_faults_lines.specs.Unfit.{HasUntoldFunc, HasUnshown, many_functions, untold, unfit}
use Rattle.cert_text_laws.specs.Texts.{IsProgramOfTexts}
use Rattle.cert_verify_laws.specs.Causes.{HasFlows, TextsHaveFlows, TextsHaveNumbers, TextsCanBeSearched}
use Rattle.vaultc_runs.specs.Texts.{IsTextOf}
use Rattle.vaultc_replies.specs.Judged.{IsJudged}
use Rattle.vaultc_replies.proofs.OfTexts.{program_of_text}
use Rattle.vaultq_replies.specs.Listable.{HasListable}

-- what is known of the programs of texts
pub record Laws : Type 0 where
  pub fit : ProgramsAreFit
  pub flows : TextsHaveFlows
  pub numbers : TextsHaveNumbers
  pub searched : TextsCanBeSearched

none_untold : (p : Program) → HasFlows p → (g : ℕ) (f : Func) (o : Option ℕ) → slice_get p.fns g ≡ Some f → f.external ≡ false → IsOrigin p f o → TextsHaveNumbers → IsProgramOfTexts p
    → IsUntold p (instance p f o) → ⊥
none_untold p flows g f o there body is numbers texts (no_flow n) = flows.flow g f o there body is n
none_untold p flows g f o there body is numbers texts (no_start n) = flows.start g f o there body is n
none_untold p flows g f o there body is numbers texts (no_number n) = numbers p texts g f o there body is n

module _ (laws : Laws) where
  all_told : (p : Program) → IsProgramOfTexts p → HasUntoldFunc p → ⊥
  all_told p texts u = none_untold p (laws.flows p texts) u.number u.func u.untold.origin u.there u.with_body u.untold.is laws.numbers texts u.untold.untold

  all_shown : (p : Program) → IsProgramOfTexts p → length p.fns ≤ 4096 → HasUnshown p → ⊥
  all_shown p texts few (untold u) = all_told p texts u
  all_shown p texts few (many_functions many) = omega (arith, few, many)
  all_shown p texts few (unfit x found) =
      laws.searched p texts x.function found.func x.origin found.there found.unfit.with_body found.unfit.origin found.unfit.unfit

  pub listable : (bytes : List ℕ) (t : Tree) (v : Verdict) → IsTextOf t bytes → IsTextTree t → IsJudged t v → HasListable v
  listable bytes t (Broken rule at) reads tree judged = tt
  listable bytes t (Exceeded n) reads tree judged = tt
  listable bytes t (Accepted p) reads tree (s, is, same) =
      let q = core.program_of p in
      let of_accepted : IsVerdictOf t (accepted q) = subst (IsVerdictOf t) same is in
      let fit = fit_program laws.fit t q tree of_accepted.0 in
      record {
        well_formed = fit.well_formed;
        shown = all_shown q (program_of_text bytes t q reads tree of_accepted.0) fit.few.functions;
      }
  listable bytes t (Faulty p x) reads tree (s, is, (f, there, same)) =
      let q = core.program_of p in
      let of_faulty : IsVerdictOf t (faulty q f (fault_of x)) = subst (IsVerdictOf t) same is in
      let fit = fit_program laws.fit t q tree of_faulty.0 in
      record {
        well_formed = fit.well_formed;
        shown = all_shown q (program_of_text bytes t q reads tree of_faulty.0) fit.few.functions;
      }
