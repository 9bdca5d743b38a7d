-- Why a tree has no verdict, beside want of memory.
use Rattle.std.specs.Prelude.{◌≡◌, Result, Ok, Err}
use Rattle.vlt_syntax.specs.Tree.{Tree}
use Rattle.vlt_core.specs.Core.{Program}
use Rattle.vlt_fit_laws.specs.Unfit.{HasUnfitBody}
use Rattle.vlt_elaboration.specs.Programs.{program_told}
use Rattle.vlt_verdict.specs.declared.JudgeError.{JudgeError}
use Rattle.vlt_verdict.specs.declared.JudgeError.TheVariants.{Unfit}

-- a fact for the one error that says so
pub record IfUnfit {A : Type 0} (r : Result A JudgeError) (p : Type 0) : Type 0 where
  pub holds : r ≡ Err Unfit → p

-- a body of the tree's core program is unfit for the check
pub record HasUnfitProgram (t : Tree) : Type 0 where
  pub program : Program
  pub told : program_told t ≡ Ok program
  pub unfit : HasUnfitBody program
