-- What a run of a C program writes, and how a statement of it stops, in the words of `vlt_steps`.
use Rattle.std.specs.Prelude.{ℕ, Option, Some, None}
use Rattle.c_meaning.specs.World as model
use Rattle.c_meaning.specs.World.{line_of, World, Outcome}
use Rattle.vlt_steps.specs.declared.stop.Stop.{Stop}
use Rattle.vlt_steps.specs.declared.stop.Stop.TheVariants.{Done, Trap, FuelEnd, HeapEnd, DepthEnd, InputEnd, AnswersEnd, BadAnswer, SinkFault}
use Rattle.vlt_steps.specs.Writing as writing
use Rattle.vlt_steps.specs.Writing.{Outside, WasCut}
use Rattle.vlt_steps.specs.Stops as stops
use Rattle.c_primitives.specs.declared.halt.Halt.{Halt}
use Rattle.c_primitives.specs.declared.halt.Halt.TheVariants.{Broken, Stopped}

-- the outcome of the run, none where it was cut off before its end
abbrev pub outcome_of : Stop → Option Outcome
outcome_of Done = Some model.done
outcome_of (Trap t) = Some (model.trap t)
outcome_of FuelEnd = Some model.fuel_end
outcome_of HeapEnd = Some model.heap_end
outcome_of DepthEnd = Some model.depth_end
outcome_of InputEnd = Some model.input_end
outcome_of AnswersEnd = Some model.answers_end
outcome_of (BadAnswer n) = Some (model.bad_answer n)
outcome_of SinkFault = None

-- the number of the statement that broke a rule isn't known yet
abbrev pub halt_outcome : Halt → Option Outcome
halt_outcome (Broken rule) = None
halt_outcome (Stopped stop) = outcome_of stop

-- events were added, and their lines were written
abbrev pub Wrote : (w v : World) → (before after : Outside) → Type 0
Wrote w v before after = writing.Wrote line_of w.events v.events before after

-- the sink took a part of what is written up to the world v
abbrev pub IsCut : (w : World) → (before after : Outside) → Halt → (v : World) → Type 0
IsCut w before after h v = WasCut (Stopped SinkFault) line_of w.events v.events before after h

-- the run ends with this outcome, and so much fuel is left
abbrev pub HasStopped : (w : World) → (before after : Outside) → (left : ℕ) → Halt → Outcome → (v : World) → Type 0
HasStopped w before after left h o v = stops.HasStopped (halt_outcome h) left line_of w.events before after o v.fuel v.events
