-- Why a program is unfit for the check.
use Rattle.std.specs.Prelude.{◌≡◌, ◌≤◌, ◌^◌, ℕ, false, length, Option, Some, slice_get, Result, Err}
use Rattle.vlt_core.specs.Core.{Func, Program}
use Rattle.vlt_flow.specs.Unfit as walk
use Rattle.vlt_core.specs.Instances.{instance, IsOrigin}
use Rattle.vlt_core.specs.Bodies.{body_flow}
use Rattle.vlt_faults.specs.Judge.Faulty.{AreFitIn}
pub use Rattle.vlt_faults.specs.Judge.Faulty.{HasNoNumber}
use Rattle.vlt_check.specs.declared.program.CheckError.{CheckError}
use Rattle.vlt_check.specs.declared.program.CheckError.TheVariants.{Unfit}

-- a fact for the one error that says so
pub record IfUnfit {A : Type 0} (r : Result A CheckError) (p : Type 0) : Type 0 where
  pub holds : r ≡ Err Unfit → p

-- In some instance the body can't be walked; or of a function that is refused no fault can be told, since in some instance a token
-- is lent outside a focus, a set has no state, or something has no number.
pub data IsUnfitBody (p : Program) (f : Func) : Type 0 where
  no_walk : (o : Option ℕ) → IsOrigin p f o → walk.IsUnfit p (instance p f o) → IsUnfitBody p f
  no_fault : (AreFitIn p f → ⊥) → IsUnfitBody p f
  no_number : (o : Option ℕ) → IsOrigin p f o → HasNoNumber (body_flow p (instance p f o)) → IsUnfitBody p f

pub data IsUnfit (p : Program) : Type 0 where
  -- the number after the last function has more than 32 bits
  many_functions : 2 ^ 32 ≤ length p.fns → IsUnfit p
  unfit_body : (n : ℕ) (f : Func) → slice_get p.fns n ≡ Some f → f.external ≡ false → IsUnfitBody p f → IsUnfit p
