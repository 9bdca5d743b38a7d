-- Bodies that are fit for the check.
use Rattle.std.specs.Prelude.{◌≡◌, ℕ, Bool, Some, slice_get}
use Rattle.vlt_core.specs.Core.{Tok, Func, Program}
use Rattle.vlt_core.specs.Bodies.{body_flow}
use Rattle.vlt_core.specs.Derives.{start_map}
use Rattle.vlt_core.specs.Kinded.{HasKindedParts}
use Rattle.vlt_core_laws.specs.States.{HasStates}
use Rattle.vlt_core_laws.specs.Arms.{HasArmsStmts}
use Rattle.vlt_core_laws.specs.Scoped.{IsScopedBlock, IsAbsentOut}
use Rattle.vlt_core_laws.specs.Shown.{IsFit, IsStart}

-- Rows name tokens in scope, of which the others are absent at the start; a token is lent in a focus alone; sets have states.
pub record IsFitBody (p : Program) (f : Func) : Type 0 where
  pub scope : Tok → Bool
  pub scoped : IsScopedBlock scope (body_flow p f)
  pub absent : IsAbsentOut scope (start_map p f)
  pub fit : IsFit (body_flow p f)
  pub start : IsStart (start_map p f)

-- The parts break no rule on names and types; each set has a state, and each switch an arm, as in the code and by the grammar.
pub record IsWellFormed (p : Program) : Type 0 where
  pub kinded : HasKindedParts p
  pub states : HasStates p
  pub arms : (g : ℕ) (f : Func) → slice_get p.fns g ≡ Some f → HasArmsStmts f.body
