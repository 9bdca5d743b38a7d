-- What is written of a run: it adds events, and the sink takes the line of each, or a part of the lines.
use Rattle.std.specs.Prelude.{◌≡◌, ◌≤◌, ℕ, List, ◌++◌, Option}
use Rattle.std.specs.List.{flat_map}
use Rattle.vlt_io.specs.Outside.{Rose, Grew, GrewByPart}

-- what is told of the sink: what was written, and how often writing failed
pub record Outside : Type 0 where
  pub written : Option (List ℕ)
  pub faults : ℕ

-- nothing was written
abbrev pub IsUntouched : (before after : Outside) → Type 0
IsUntouched before after = after ≡ before

-- events were added, and their lines were written
pub record Wrote {Event : Type 0} (line : Event → List ℕ) (old new : List Event) (before after : Outside) : Type 0 where
  pub events : List Event
  pub added : new ≡ old ++ events
  pub grew : Grew before.written after.written (flat_map line events)
  pub counted : before.faults ≤ after.faults

-- the sink failed, having taken a part of the lines of the events that were added
pub record WasCut {Stop Event : Type 0} (sink_fault : Stop) (line : Event → List ℕ) (old new : List Event) (before after : Outside) (stop : Stop) : Type 0 where
  pub fault : stop ≡ sink_fault
  pub events : List Event
  pub added : new ≡ old ++ events
  pub grew : GrewByPart before.written after.written (flat_map line events)
  pub rose : Rose before.faults after.faults
  pub counted : before.faults ≤ after.faults
