use Rattle.std.proofs.Common.{◌≡◌}
use Rattle.vlt_core.specs.View.{program_of}
use Rattle.vlt_heap.specs.Shown.{heap_of}
use Rattle.vlt_meaning.specs.World.{World}
use Rattle.vlt_meaning.specs.Step.{Step}
use Rattle.vlt_steps.specs.Writing.{Outside}
use Rattle.vlt_interp.specs.Tasks.Shown.{tasks_left}
use Rattle.vlt_interp.specs.Running.{IsRunning}
use Rattle.vlt_interp.proofs.Weighing.{measure}
use Rattle.vlt_interp.proofs.run.finish.Given as goal

abbrev pub invariant-loop-run : goal.invariant-loop-run
invariant-loop-run g l = record {
  heap : heap_of l.run.heap ≡ heap_of l.fn.run.heap;
  running : (goal : Step) (w : World) → ((b : Outside) → IsRunning l.rules goal w b b l.fn.run) →
      IsRunning l.rules goal w (record { written = g.K.Sink.written l.fn.sink; faults = g.K.Sink.faults l.fn.sink })
      (record { written = g.K.Sink.written l.sink; faults = g.K.Sink.faults l.sink }) l.run;
}

abbrev pub decreases-loop-run : goal.decreases-loop-run
decreases-loop-run g l = measure (program_of l.rules.program.now) l.rules.depth l.run.fuel (tasks_left l.run)
