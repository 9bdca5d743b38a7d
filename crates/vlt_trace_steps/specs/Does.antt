-- What a statement without blocks does to the code's frame and world.
use Rattle.std.specs.Prelude.{ℕ, Bool, true, false, Result}
use Rattle.vlt_core.specs.Core.{Simple, Form, simple}
use Rattle.vlt_meaning.specs.Run.{does_simple}
use Rattle.vlt_trace_worlds.specs.View.{frame_view, world_view}
use Rattle.vlt_trace_worlds.specs.Running.{func_in, setup_in}
use Rattle.vlt_trace_worlds.specs.Steps.{Goes}
use Rattle.vlt_trace_worlds.specs.declared.stops.Halt.{Halt}
use Rattle.vlt_trace_worlds.specs.declared.running.Running.{Running}
use Rattle.vlt_trace_worlds.specs.declared.worlds.Frame.{Frame}
use Rattle.vlt_trace_worlds.specs.declared.worlds.World.{World}

-- a statement without blocks that calls nothing
abbrev pub is_simple : Form → Bool
is_simple (simple s) = true
is_simple form = false

-- it goes on in the frame and the world after it, or ends so; or there is no memory
abbrev pub Does : Running → (heap : ℕ) → Simple → Frame → World → Result (Unit {0}) Halt → Frame → World → Type 0
Does at heap s frame world r next after =
    (depth : ℕ) → Goes (does_simple (setup_in at heap depth) (func_in at) s (frame_view frame) (world_view world))
    r (frame_view next) (world_view after)
