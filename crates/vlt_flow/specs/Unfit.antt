-- Why a function's body is unfit for a walk.
use Rattle.std.specs.Prelude.{◌≡◌, ◌≤◌, ◌^◌, Result, Err}
use Rattle.vlt_core.specs.Core.{Func, Program}
use Rattle.vlt_core.specs.Flow.{size_block}
use Rattle.vlt_core.specs.Bodies.{body_flow}
use Rattle.vlt_rows.specs.Unfit.{HasNoFlow}
use Rattle.vlt_flow_maps.specs.Unfit.{HasNoStart}
use Rattle.vlt_flow.specs.declared.errors.Stop.{Stop}
use Rattle.vlt_flow.specs.declared.errors.Stop.TheVariants.{Unfit}

-- a fact for the one error that says so
pub record IfUnfit {A : Type 0} (r : Result A Stop) (p : Type 0) : Type 0 where
  pub holds : r ≡ Err Unfit → p

pub data IsUnfit (p : Program) (f : Func) : Type 0 where
  no_flow : HasNoFlow p f → IsUnfit p f
  no_start : HasNoStart p f → IsUnfit p f
  -- the body has so many statements
  many_statements : 2 ^ 62 ≤ size_block (body_flow p f) → IsUnfit p f
