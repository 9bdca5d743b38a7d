-- Faults, and those that paths show.
use Rattle.std.specs.Prelude.{◌≡◌, false, List, Option, Some, slice_get}
use Rattle.vlt_core.specs.Core.{Func, Program}
use Rattle.vlt_core.specs.Instances.{instance, IsOrigin}
use Rattle.vlt_core.specs.Faults.{Spot, FlowFault, IsFaultIn, IsToldOf}
use Rattle.vlt_core.specs.Witness.{Choice, IsWitness}

-- a row or a join of some instance of a body is faulty, and told as it is
pub record IsFault (p : Program) (x : FlowFault) : Type 0 where
  pub func : Func
  pub there : slice_get p.fns x.function ≡ Some func
  pub with_body : func.external ≡ false
  pub origin : IsOrigin p func x.origin
  pub spot : Spot
  pub place : spot.at ≡ x.at
  pub faulty : IsFaultIn p (instance p func x.origin) spot x.tok
  pub told : IsToldOf p (instance p func x.origin) x.kind spot x.tok

-- some witness shows the fault
pub record HasWitness (p : Program) (x : FlowFault) : Type 0 where
  pub first : List Choice
  pub second : Option (List Choice)
  pub shown : IsWitness p x first second
