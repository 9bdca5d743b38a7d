use Rattle.std.proofs.Common.{vec_capacity}
use Rattle.c_machine.specs.Within.{measure}
use Rattle.c_interp.specs.Shown.{tasks_of, HasRoom}
use Rattle.c_interp.specs.Running.{start_of, run_of, IsRunning}
use Rattle.c_interp.proofs.run.finish.Given as goal

abbrev pub invariant-loop-stop : goal.invariant-loop-stop
invariant-loop-stop g l = record {
  room : HasRoom l.rules l.tasks.items (vec_capacity l.tasks) l.frames l.world;
  running : IsRunning l.rules (run_of l.rules l.fn.world) (start_of l.fn.world) (record { written = g.K.Sink.written l.fn.sink; faults = g.K.Sink.faults l.fn.sink })
      (record { written = g.K.Sink.written l.sink; faults = g.K.Sink.faults l.sink }) l.tasks.items l.frames l.world;
}

abbrev pub decreases-loop-stop : goal.decreases-loop-stop
decreases-loop-stop g l = measure l.rules.count l.world.fuel (tasks_of l.tasks.items)
