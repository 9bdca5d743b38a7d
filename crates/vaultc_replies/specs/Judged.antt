-- What the code's verdicts stand for.
use Rattle.std.specs.Prelude.{Bool, true, false}
use Rattle.vlt_syntax.specs.Tree.{Tree}
use Rattle.vlt_core.specs.Faults.{FlowFault, IsFirstFault}
use Rattle.vlt_core.specs.View as core
use Rattle.vlt_check.specs.Checks.{fault_of}
use Rattle.vlt_core_laws.specs.Fit.{IsWellFormed}
use Rattle.vlt_verdict.specs.Verdicts as verdicts
use Rattle.vlt_verdict.specs.Seen.{IsSeenAs}
use Rattle.vlt_verdict.specs.declared.Verdict.{Verdict}
use Rattle.vlt_verdict.specs.declared.Verdict.TheVariants as verdict
use Rattle.cert_text_laws.specs.Texts.{IsProgramOfTexts}
use Rattle.vlt_core.specs.Core.{Program}

-- the code's verdict stands for one of the tree
abbrev pub IsJudged : Tree → Verdict → Type 0
IsJudged t v = (s : verdicts.Verdict) × verdicts.IsVerdictOf t s × IsSeenAs v s

abbrev pub is_accepted : Verdict → Bool
is_accepted (verdict.Accepted p) = true
is_accepted _ = false

-- the fault is the first one of a text's program, which breaks no rule on names and types
pub record IsShowableIn (p : Program) (x : FlowFault) : Type 0 where
  pub texts : IsProgramOfTexts p
  pub well_formed : IsWellFormed p
  pub first : IsFirstFault p x

abbrev pub IsShowable : Verdict → Type 0
IsShowable (verdict.Faulty p x) = IsShowableIn (core.program_of p) (fault_of x)
IsShowable _ = Unit {0}
