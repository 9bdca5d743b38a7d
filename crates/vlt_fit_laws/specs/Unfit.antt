-- What a program of the code that the check may be asked of may still be unfit for it by. No program of a text is so, by a law on
-- texts (`texts_are_judged`).
use Rattle.std.specs.Prelude.{◌≡◌, ◌≤◌, ◌^◌, ℕ, false, Option, Some, slice_get}
use Rattle.vlt_core.specs.Core.{Func, Program}
use Rattle.vlt_core.specs.Instances.{instance, IsOrigin}
use Rattle.vlt_core.specs.Flow.{size_block}
use Rattle.vlt_core.specs.Bodies.{body_flow}
use Rattle.vlt_core.specs.View.{program_of}
use Rattle.vlt_core.specs.declared.program.Program.{Program as CodeProgram}
use Rattle.vlt_rows.specs.Unfit.{HasWideRow}
use Rattle.vlt_check.specs.Unfit.{IsUnfit, HasNoNumber}
use Rattle.vlt_fit_laws.specs.Fit.{IsJudgeable}

pub data IsStillUnfit (p : Program) (f : Func) : Type 0 where
  -- no set of the code has just the states that a row names
  wide_row : HasWideRow (body_flow p f) → IsStillUnfit p f
  many_statements : 2 ^ 62 ≤ size_block (body_flow p f) → IsStillUnfit p f
  -- in a body that is refused
  no_number : HasNoNumber (body_flow p f) → IsStillUnfit p f

-- some function has such a body in some instance
pub record HasUnfitBody (p : Program) : Type 0 where
  pub number : ℕ
  pub func : Func
  pub there : slice_get p.fns number ≡ Some func
  pub with_body : func.external ≡ false
  pub origin : Option ℕ
  pub is : IsOrigin p func origin
  pub unfit : IsStillUnfit p (instance p func origin)

abbrev pub OnlyBodiesAreUnfit : Type 0
OnlyBodiesAreUnfit = (c : CodeProgram) → IsJudgeable (program_of c) → IsUnfit (program_of c) → HasUnfitBody (program_of c)
