-- Functions that run.
use Rattle.std.specs.Prelude.{◌≡◌, ℕ, false}
use Rattle.vlt_core.specs.Core.{Func, Program}
use Rattle.vlt_core.specs.Instances.{IsInstanceOf}

-- a function with a body, in one of its instances
pub record IsFunction (p : Program) (f : Func) : Type 0 where
  pub number : ℕ
  pub function : IsInstanceOf p number f
  pub has_body : f.external ≡ false
