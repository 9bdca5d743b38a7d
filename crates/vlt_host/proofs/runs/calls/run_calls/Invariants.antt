use Rattle.std.proofs.Common.{◌-◌, length}
use Rattle.vlt_numbers.specs.HostAnswers.{lists_of}
use Rattle.vlt_meaning.specs.Run.{start}
use Rattle.vlt_host_meaning.specs.Tables.{calls_in}
use Rattle.vlt_host.specs.Machine.HostMachine.{fuel_left}
use Rattle.vlt_host.proofs.OfRuns.Going.{Goes}
use Rattle.vlt_host.proofs.runs.calls.run_calls.Given as goal

abbrev pub invariant-loop-call : goal.invariant-loop-call
invariant-loop-call g l =
    Goes (calls_in l.calls) (start (fuel_left l.fn.machine) l.input (lists_of l.answers)) l.index l.fn.machine l.machine l.supply
    (record { written = g.K.Sink.written l.fn.sink; faults = g.K.Sink.faults l.fn.sink })
    (record { written = g.K.Sink.written l.sink; faults = g.K.Sink.faults l.sink })

abbrev pub decreases-loop-call : goal.decreases-loop-call
decreases-loop-call g l = length (calls_in l.calls) - l.index
