-- Programs of which all faults can be told, with their paths, and all points; private contracts alone cite this.
use Rattle.std.specs.Prelude.{◌≡◌}
use Rattle.vlt_core.specs.Core.{Program}
use Rattle.vlt_core.specs.View as core
use Rattle.vlt_core_laws.specs.Fit.{IsWellFormed}
use Rattle.vlt_verdict.specs.declared.Verdict.{Verdict}
use Rattle.vlt_verdict.specs.declared.Verdict.TheVariants as verdict
use Rattle.vlt_all_faults_lines.specs.Unfit.{HasUnshown}

-- no rule on names and types is broken, and nothing keeps the paths of a fault, or a point, from being told; so it is of each text's program
pub record IsListable (p : Program) : Type 0 where
  pub well_formed : IsWellFormed p
  pub shown : HasUnshown p → ⊥

-- the program of a verdict, if it has one, is so
abbrev pub HasListable : Verdict → Type 0
HasListable (verdict.Faulty p x) = IsListable (core.program_of p)
HasListable (verdict.Accepted p) = IsListable (core.program_of p)
HasListable _ = Unit {0}

-- this is the program of the verdict
abbrev pub HasProgram : Verdict → Program → Type 0
HasProgram (verdict.Faulty q x) p = p ≡ core.program_of q
HasProgram (verdict.Accepted q) p = p ≡ core.program_of q
HasProgram _ p = ⊥
