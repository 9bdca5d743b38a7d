-- How a machine stops, against the outcome of a run.
use Rattle.std.specs.Prelude.{ℕ, Option, Some}
use Rattle.c_meaning.specs.World as model
use Rattle.c_meaning.specs.World.{line_of, event_text, World, Outcome, Ran}
use Rattle.vlt_steps.specs.declared.stop.Stop.TheVariants.{SinkFault}
use Rattle.vlt_steps.specs.Writing.{Outside, WasCut}
use Rattle.vlt_steps.specs.Stops as stops
use Rattle.c_primitives.specs.declared.halt.Halt.{Halt}
use Rattle.c_primitives.specs.declared.halt.Halt.TheVariants as halt
use Rattle.c_primitives.specs.Stops as primitives
use Rattle.c_interp.specs.declared.stop.CStop.{CStop}
use Rattle.c_interp.specs.declared.stop.CStop.TheVariants.{Stopped, Undefined}

-- the outcome of the run, none where it was cut off before its end
abbrev pub outcome_of : CStop → Option Outcome
outcome_of (Stopped stop) = primitives.outcome_of stop
outcome_of (Undefined r n) = Some (model.undefined r n)

-- the stop of a statement
abbrev pub stop_for : (n : ℕ) → Halt → CStop
stop_for n (halt.Broken r) = Undefined r n
stop_for n (halt.Stopped stop) = Stopped stop

-- the sink took a part of what is written up to the world v
abbrev pub IsCut : (w : World) → (before after : Outside) → CStop → (v : World) → Type 0
IsCut w before after stop v = WasCut (Stopped SinkFault) line_of w.events v.events before after stop

-- the run ends with this outcome, and so much fuel is left
abbrev pub HasStopped : (w : World) → (before after : Outside) → (left : ℕ) → CStop → Outcome → (v : World) → Type 0
HasStopped w before after left stop o v = stops.HasStopped (outcome_of stop) left line_of w.events before after o v.fuel v.events

-- The machine stopped with the run's outcome, and wrote its events; or the sink failed, and a part of them was written.
abbrev pub StopsAs : Ran → (before after : Outside) → CStop → Type 0
StopsAs ran before after stop = stops.StopsAs outcome_of (Stopped SinkFault) ran.outcome (event_text ran.world.events) before after stop
