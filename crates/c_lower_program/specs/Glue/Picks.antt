-- Which states the host is asked for. All is as in `c_lower/specs/Glue.antt`, but nothing unfolds unless it is asked to: 32
-- numbers would stand in each goal.
use Rattle.std.specs.Prelude.{ℕ, zero, suc, nat_le, false, if◌then◌else◌, List, [], ◌∷◌, ◌++◌, length, Option, None, Some}
use Rattle.vlt_base.specs.States.{has_state}
use Rattle.vlt_base.specs.declared.states.StateSet.{StateSet}
use Rattle.vlt_core.specs.Core.{States}
use Rattle.c_syntax.specs.declared.program.CPrim.TheVariants as prim
use Rattle.c_syntax.specs.C.{Stmt}
use Rattle.c_lower.specs.Statements.{runtime_call}
use Rattle.c_lower.specs.Glue.{mask}

-- the states below a number, built from the end
unfoldable pub states_below : ℕ → States → List ℕ
states_below zero states = []
states_below (suc n) states = states_below n states ++ (if states n then n ∷ [] else [])

-- `pick_state`
unfoldable pub picked : States → List Stmt
picked states =
    if nat_le 2 (length (states_below 32 states)) then runtime_call prim.Pick (mask (states_below 32 states) ∷ []) ∷ [] else []

-- the states of a set that may be missing
abbrev pub has_in : Option StateSet → States
has_in None i = false
has_in (Some states) i = has_state states i
