-- Bodies of which the first fault can be told, and why of others none can.
use Rattle.std.specs.Prelude.{◌≤◌, ◌^◌, ℕ, Option}
use Rattle.vlt_core.specs.Core.{Func, Program}
use Rattle.vlt_core.specs.Instances.{instance, IsOrigin}
use Rattle.vlt_core.specs.Bodies.{body_flow}
use Rattle.vlt_core.specs.Derives.{start_map}
use Rattle.vlt_core.specs.Flow.{Block, size_block}
use Rattle.vlt_core.specs.Faults.{spots_block}
use Rattle.vlt_core_laws.specs.Shown.{IsFit, IsStart}
use Rattle.vlt_rows.specs.Unfit.{HasNoFlow}
use Rattle.vlt_flow_maps.specs.Unfit.{HasNoStart}
use Rattle.vlt_faults.specs.Judge.Extents.{AvoidsBlock, last_key, last_var}

-- a token is lent in a focus alone, and sets have states
pub record IsFitIn (p : Program) (f : Func) : Type 0 where
  pub fit : IsFit (body_flow p f)
  pub start : IsStart (start_map p f)

-- Something in the body has no number, or none after it.
pub data HasNoNumber (s : Block) : Type 0 where
  -- there are so many statements, or rows and joins
  many_statements : 2 ^ 62 ≤ size_block s → HasNoNumber s
  many_spots : 2 ^ 62 ≤ spots_block s → HasNoNumber s
  -- a row names the last key, or the last variable, that has a number of 32 bits
  names_last_key : (AvoidsBlock last_key s → ⊥) → HasNoNumber s
  names_last_var : (AvoidsBlock last_var s → ⊥) → HasNoNumber s

-- the body of each instance is so
abbrev pub AreFitIn : Program → Func → Type 0
AreFitIn p f = (o : Option ℕ) → IsOrigin p f o → IsFitIn p (instance p f o)

-- No fault of the function's body can be told, if it has one.
pub data IsUntold (p : Program) (f : Func) : Type 0 where
  no_flow : HasNoFlow p f → IsUntold p f
  no_start : HasNoStart p f → IsUntold p f
  no_number : HasNoNumber (body_flow p f) → IsUntold p f

-- so of some instance
pub record HasUntold (p : Program) (f : Func) : Type 0 where
  pub origin : Option ℕ
  pub is : IsOrigin p f origin
  pub untold : IsUntold p (instance p f origin)
