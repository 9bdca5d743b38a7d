-- What a run of a core program writes, and how it is stopped, in the words of `vlt_steps`.
use Rattle.std.specs.Prelude.{ℕ, Option, Some, None}
use Rattle.vlt_meaning.specs.World as model
use Rattle.vlt_meaning.specs.World.{line_of, event_text, World, Outcome, Ran}
use Rattle.vlt_steps.specs.declared.stop.Stop.{Stop}
use Rattle.vlt_steps.specs.declared.stop.Stop.TheVariants.{Done, Trap, FuelEnd, HeapEnd, DepthEnd, InputEnd, AnswersEnd, BadAnswer, SinkFault}
use Rattle.vlt_steps.specs.Writing as writing
use Rattle.vlt_steps.specs.Writing.{Outside, WasCut}
use Rattle.vlt_steps.specs.Stops as stops

-- the outcome of the run, none where it was cut off before its end
abbrev pub outcome_of : Stop → Option Outcome
outcome_of Done = Some model.done
outcome_of (Trap t) = Some (model.trap t)
outcome_of FuelEnd = Some model.fuel_end
outcome_of HeapEnd = Some model.heap_end
outcome_of DepthEnd = Some model.depth_end
outcome_of InputEnd = Some model.input_end
outcome_of AnswersEnd = Some model.answers_end
outcome_of (BadAnswer n) = Some (model.bad_answer n)
outcome_of SinkFault = None

-- events were added, and their lines were written
abbrev pub Wrote : (w v : World) → (before after : Outside) → Type 0
Wrote w v before after = writing.Wrote line_of w.events v.events before after

-- the sink took a part of what is written up to the world v
abbrev pub IsCut : (w : World) → (before after : Outside) → Stop → (v : World) → Type 0
IsCut w before after stop v = WasCut SinkFault line_of w.events v.events before after stop

-- the run ends with this outcome, and so much fuel is left
abbrev pub HasStopped : (w : World) → (before after : Outside) → (left : ℕ) → Stop → Outcome → (v : World) → Type 0
HasStopped w before after left stop o v = stops.HasStopped (outcome_of stop) left line_of w.events before after o v.fuel v.events

-- The machine stopped with the run's outcome, and wrote its events; or the sink failed, and a part of them was written.
abbrev pub StopsAs : Ran → (before after : Outside) → Stop → Type 0
StopsAs ran before after stop = stops.StopsAs outcome_of SinkFault ran.outcome (event_text ran.world.events) before after stop
