-- What a step of a run of a core program writes.
use Rattle.std.proofs.Common.{◌≡◌, ◌≤◌, [], ◌∷◌, ◌++◌}
use Rattle.vlt_io.specs.Outside.{Rose, Grew, GrewByPart}
use Rattle.vlt_meaning.specs.World.{Event, line_of, World}
use Rattle.vlt_meaning.specs.Step.{with_event}
use Rattle.vlt_steps.specs.declared.stop.Stop.TheVariants.{SinkFault}
use Rattle.vlt_steps.specs.Writing.{Outside}
use Rattle.vlt_steps.proofs.Writing as writing
use Rattle.vlt_acts.specs.Hosts.Stops.{Wrote, IsCut}

-- nothing is written
pub silent : (w v : World) (b : Outside) → v.events ≡ w.events → Wrote w v b b
silent w v b e = writing.silent line_of w.events v.events b e

-- one event is written
pub one_written : (w : World) (e : Event) (before after : Outside) → Grew before.written after.written (line_of e) → before.faults ≤ after.faults → Wrote w (with_event w e) before after
one_written w e before after grew counted = writing.one_written line_of w.events e before after grew counted

-- the sink took a part of it
pub one_cut : (w v : World) (e : Event) (before after : Outside) → v.events ≡ w.events ++ e ∷ [] → GrewByPart before.written after.written (line_of e) → Rose before.faults after.faults → before.faults ≤ after.faults → IsCut w before after SinkFault v
one_cut w v e before after added grew rose counted = writing.one_cut line_of SinkFault w.events v.events e before after added grew rose counted
