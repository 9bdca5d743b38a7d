-- Why a function's body is unfit for a search.
use Rattle.std.specs.Prelude.{◌≡◌, ℕ, ◌+◌, ◌<◌, ◌≤◌, ◌^◌, false, List, length, Some, slice_get}
use Rattle.vlt_core.specs.Core.{Func, Program}
use Rattle.vlt_core.specs.Instances.{instance, IsOrigin}
use Rattle.vlt_core.specs.Maps.{Row}
use Rattle.vlt_core.specs.Flow.{Block, Arms, no_arms, arm}
use Rattle.vlt_core.specs.Bodies.{body_flow}
use Rattle.vlt_core.specs.Faults.{FlowFault, spots_block}
use Rattle.vlt_rows.specs.Unfit.{HasPartBlock, HasWideRow}
use Rattle.vlt_flow_maps.specs.Unfit.{HasNoStart}

abbrev pub arm_count : Arms → ℕ
arm_count no_arms = 0
arm_count (arm rs b rest) = 1 + arm_count rest

-- The last arm has no position of 8 bits.
abbrev pub HasManyArms : Arms → Type 0
HasManyArms arms = 2 ^ 8 < arm_count arms

abbrev pub NoRows : List Row → Type 0
NoRows rs = ⊥

-- some switch of the body has so many arms
abbrev pub HasLongSwitch : Block → Type 0
HasLongSwitch = HasPartBlock NoRows HasManyArms

pub data IsUnfit (p : Program) (f : Func) : Type 0 where
  -- a row names states of which no set has just these
  wide_row : HasWideRow (body_flow p f) → IsUnfit p f
  -- the last key, or variable, has no number of 32 bits
  many_keys : 2 ^ 32 < length f.keys → IsUnfit p f
  many_vars : 2 ^ 32 < length f.vars → IsUnfit p f
  no_start : HasNoStart p f → IsUnfit p f
  long_switch : HasLongSwitch (body_flow p f) → IsUnfit p f
  -- the number after the last row or join has more than 64 bits
  many_spots : 2 ^ 64 ≤ spots_block (body_flow p f) → IsUnfit p f

-- The function has a body and an instance of the fault's origin, and its body there is unfit.
pub record IsUnfitIn (p : Program) (f : Func) (x : FlowFault) : Type 0 where
  pub with_body : f.external ≡ false
  pub origin : IsOrigin p f x.origin
  pub unfit : IsUnfit p (instance p f x.origin)

-- the same of the fault's function
pub record IsUnfitAt (p : Program) (x : FlowFault) : Type 0 where
  pub func : Func
  pub there : slice_get p.fns x.function ≡ Some func
  pub unfit : IsUnfitIn p func x
