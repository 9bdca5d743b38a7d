use Rattle.std.proofs.Common.{◌≡◌, ◌≤◌, length}
use Rattle.std.specs.Vec.{vec_capacity}
use Rattle.c_meaning.specs.World as model
use Rattle.c_machine.specs.Machine as m
use Rattle.c_interp.specs.declared.frames.Frames.{Frames}
use Rattle.c_interp.specs.Shown.{state_of, tasks_of}
use Rattle.c_interp.proofs.stack.continue_to.Given as goal

abbrev pub invariant-loop-task : goal.invariant-loop-task
invariant-loop-task l = record {
  same : (f : Frames) (w : model.World) → m.continue_to l.count (tasks_of l.tasks.items) (state_of f w) ≡ m.continue_to l.count (tasks_of l.fn.tasks.items) (state_of f w);
  room : vec_capacity l.fn.tasks ≤ vec_capacity l.tasks;
}

abbrev pub decreases-loop-task : goal.decreases-loop-task
decreases-loop-task l = length l.tasks.items
