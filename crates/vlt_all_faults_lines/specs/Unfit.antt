-- Why not all faults of a program are told, or shown. No program of a text is so.
use Rattle.std.specs.Prelude.{◌≡◌, ◌≤◌, ◌^◌, ℕ, false, length, Some, slice_get}
use Rattle.vlt_core.specs.Core.{Func, Program}
use Rattle.vlt_core.specs.Faults.{FlowFault}
use Rattle.vlt_faults.specs.Judge.Faulty.{HasUntold}
use Rattle.vlt_witness.specs.Unfit.{IsUnfitAt}

-- In some instance of a function with a body no fault can be told.
pub record HasUntoldFunc (p : Program) : Type 0 where
  pub number : ℕ
  pub func : Func
  pub there : slice_get p.fns number ≡ Some func
  pub with_body : func.external ≡ false
  pub untold : HasUntold p func

-- Paths to faults aren't told.
pub data HasUnshown (p : Program) : Type 0 where
  untold : HasUntoldFunc p → HasUnshown p
  -- the number after the last function has more than 32 bits
  many_functions : 2 ^ 32 ≤ length p.fns → HasUnshown p
  -- the body of a fault's instance is unfit for a search
  unfit : (x : FlowFault) → IsUnfitAt p x → HasUnshown p
