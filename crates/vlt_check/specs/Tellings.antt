-- The fault that is told of one function; private contracts alone cite this.
use Rattle.std.specs.Prelude.{◌≡◌, ℕ}
use Rattle.vlt_core.specs.Core.{Func, Program}
use Rattle.vlt_core.specs.Faults.{FlowFault, IsFirstOfAll}
use Rattle.vlt_faults.specs.Judge.Faulty.{AreFitIn}

-- the fault is of the function of this number, and the first one over its instances, if their bodies are fit
pub record IsTold (p : Program) (f : Func) (number : ℕ) (x : FlowFault) : Type 0 where
  pub function : x.function ≡ number
  pub first : AreFitIn p f → IsFirstOfAll p f x.origin x.at x.tok x.kind
