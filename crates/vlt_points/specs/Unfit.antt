-- Why the points of a program can't be told.
use Rattle.std.specs.Prelude.{◌≡◌, ℕ, false, Some, slice_get}
use Rattle.vlt_core.specs.Core.{Func, Program}
use Rattle.vlt_faults.specs.Judge.Faulty.{HasUntold}

-- a function with a body has an instance whose body has no flow, no map to begin with, or something without a number
pub record HasUnlisted (p : Program) : Type 0 where
  pub number : ℕ
  pub func : Func
  pub there : slice_get p.fns number ≡ Some func
  pub with_body : func.external ≡ false
  pub untold : HasUntold p func
