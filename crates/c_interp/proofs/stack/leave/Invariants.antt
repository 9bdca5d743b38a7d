use Rattle.std.proofs.Common.{◌≡◌, ◌≤◌, length}
use Rattle.std.specs.Vec.{vec_capacity}
use Rattle.c_meaning.specs.World as model
use Rattle.c_machine.specs.Machine as m
use Rattle.c_interp.specs.Shown.{state_of, tasks_of, given_view}
use Rattle.c_interp.proofs.stack.leave.Given as goal

abbrev pub invariant-loop-task : goal.invariant-loop-task
invariant-loop-task l = record {
  same : (w : model.World) → m.leave (given_view l.value) (tasks_of l.tasks.items) (state_of l.frames w) ≡ m.leave (given_view l.value) (tasks_of l.fn.tasks.items) (state_of l.frames w);
  room : vec_capacity l.fn.tasks ≤ vec_capacity l.tasks;
  frames : l.frames ≡ l.fn.frames;
}

abbrev pub decreases-loop-task : goal.decreases-loop-task
decreases-loop-task l = length l.tasks.items
