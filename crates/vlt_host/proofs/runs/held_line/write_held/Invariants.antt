use Rattle.std.proofs.Common.{◌≤◌, ◌-◌, ◌+◌, ◌^◌, List}
use Rattle.vlt_core.specs.View.{program_of}
use Rattle.vlt_io.specs.Outside.{Grew}
use Rattle.vlt_meaning.specs.World.{Object}
use Rattle.vlt_host.specs.Machine.HostMachine.{ShowsObjects}
use Rattle.vlt_host.proofs.OfRuns.HeldObjects.{texts_up_to}
use Rattle.vlt_host.proofs.runs.held_line.write_held.Given as goal

abbrev pub invariant-loop-object : goal.invariant-loop-object
invariant-loop-object g l = record {
  wrote : (objects : List Object) → ShowsObjects l.machine objects →
      Grew (g.K.Sink.written l.fn.sink) (g.K.Sink.written l.sink) (texts_up_to (program_of l.program) objects l.index);
  counted : g.K.Sink.faults l.fn.sink ≤ g.K.Sink.faults l.sink;
}

abbrev pub decreases-loop-object : goal.decreases-loop-object
decreases-loop-object g l = 2 ^ 30 + 1 - l.index
