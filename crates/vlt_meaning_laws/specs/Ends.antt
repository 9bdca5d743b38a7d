-- Statements of which the last one ends: nothing comes after them.
use Rattle.std.specs.Prelude.{◌≡◌, Bool, true, false, ◌&&◌}
use Rattle.vlt_core.specs.Core.{Form, choose, switch, scope, return, jump, Block, block, Stmts, done, next, Arms, no_arms, arm}
use Rattle.vlt_meaning.specs.World.{World, Frame}
use Rattle.vlt_meaning.specs.Step.{Step, goes}

abbrev mutual
  pub form_ends : Form → Bool
  form_ends (choose e a b) = block_ends a && block_ends b
  form_ends (switch v arms end) = arms_end arms
  form_ends (scope b) = block_ends b
  form_ends (return value) = true
  form_ends (jump c) = true
  form_ends _ = false

  pub block_ends : Block → Bool
  block_ends (block ss bound end) = list_ends ss

  pub list_ends : Stmts → Bool
  list_ends done = false
  list_ends (next at s done) = form_ends s
  list_ends (next at s rest) = list_ends rest

  pub arms_end : Arms → Bool
  arms_end no_arms = true
  arms_end (arm c vs b rest) = block_ends b && arms_end rest

-- a step that doesn't come to the next statement
pub record Stops (a : Step) : Type 0 where
  pub not_on : (frame : Frame) (w : World) → a ≡ goes frame w → ⊥
