-- How a run is stopped, and what is told of it then. A machine has ways to stop of its own, and a run outcomes of its own.
use Rattle.std.specs.Prelude.{◌≡◌, ◌≤◌, ℕ, List, Option, Some, None, IfSome}
use Rattle.vlt_io.specs.Outside.{Rose, Grew, GrewByPart}
use Rattle.vlt_steps.specs.declared.stop.Ended.{Ended}
use Rattle.vlt_steps.specs.Writing.{Outside, Wrote}

-- A machine that stopped so, with so much fuel left, has come to the run's outcome o, to its rest of fuel and to its last events.
pub record HasStopped {Outcome Event : Type 0} (stop : Option Outcome) (left : ℕ) (line : Event → List ℕ) (old : List Event) (before after : Outside) (o : Outcome) (rest : ℕ) (new : List Event) : Type 0 where
  pub outcome : stop ≡ Some o
  pub fuel : rest ≡ left
  pub wrote : Wrote line old new before after

-- the whole text went out, or a part of its beginning where the run was cut off
abbrev pub IsTold : {Outcome : Type 0} → Option Outcome → (text : List ℕ) → (old new : Option (List ℕ)) → Type 0
IsTold (Some o) text old new = Grew old new text
IsTold None text old new = GrewByPart old new text

-- A run of this outcome and this text stopped so: with its outcome, and all of the text was written; or the sink failed, and a part
-- of the text was written.
pub record StopsAs {Stop Outcome : Type 0} (outcome_of : Stop → Option Outcome) (sink_fault : Stop) (o : Outcome) (text : List ℕ) (before after : Outside) (stop : Stop) : Type 0 where
  pub outcome : IfSome (outcome_of stop) (λ p. p ≡ o)
  pub told : IsTold (outcome_of stop) text before.written after.written
  pub cause : stop ≡ sink_fault → Rose before.faults after.faults
  pub counted : before.faults ≤ after.faults

-- and with the run's rest of fuel, if it came to its end
pub record EndsAs {Stop Outcome : Type 0} (outcome_of : Stop → Option Outcome) (sink_fault : Stop) (o : Outcome) (rest : ℕ) (text : List ℕ) (before after : Outside) (e : Ended Stop) : Type 0 where
  pub stops : StopsAs outcome_of sink_fault o text before after e.stop
  pub fuel : IfSome (outcome_of e.stop) (λ p. e.fuel ≡ rest)

-- how a machine stopped, unless its run has yet to begin
abbrev pub stop_unless : {Start Stop : Type 0} → Option Start → Stop → Option Stop
stop_unless (Some start) stop = None
stop_unless None stop = Some stop
