-- The sizes of sets of states.
use Rattle.std.specs.Prelude.{◌≡◌, ℕ, ◌≤◌, length, Some, slice_get}
use Rattle.vlt_core.specs.Core.{SetDecl, Program}

-- Each set has at most 32 states, as the grammar and the form of certificates want of it. The rules on names and types don't
-- ask it, and ask of other sets the states below 32 alone.
pub record HasSizes (p : Program) : Type 0 where
  pub most : (i : ℕ) (d : SetDecl) → slice_get p.sets i ≡ Some d → length d.states ≤ 32
