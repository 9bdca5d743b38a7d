use Rattle.std.proofs.Common.{ap, sym, ◌∙◌, arith}
use Rattle.c_machine.specs.Machine as m
use Rattle.c_interp.specs.Shown.{state_of, given_view}
use Rattle.c_interp.proofs.Tasks.{popped}
use Rattle.c_interp.proofs.Returning.{leave_back, leave_bottom}
use Rattle.c_interp.proofs.stack.leave.Goals as goal

pub loop-task-preserved-in-List : goal.loop-task-preserved-in-List
loop-task-preserved-in-List c = record {
  same = λ w. sym (ap (λ l. m.leave (given_view c.args.value) l (state_of c.loop-task.frames w)) (popped _ _ _ _ c.in-Some.ensures.items c.in-List.is)) ∙ c.loop-task.invariant.same w;
  room = omega (arith, c.loop-task.invariant.room, c.pop.ensures.capacity);
  frames = c.loop-task.invariant.frames;
}

pub loop-task-preserved : goal.loop-task-preserved
loop-task-preserved c = record {
  same = λ w. sym (ap (λ l. m.leave (given_view c.args.value) l (state_of c.loop-task.frames w)) (popped _ _ _ _ c.in-Some.ensures.items c.in-Again.is)) ∙ c.loop-task.invariant.same w;
  room = omega (arith, c.loop-task.invariant.room, c.pop.ensures.capacity);
  frames = c.loop-task.invariant.frames;
}

pub returns-in-Back-clause-comes : goal.returns-in-Back-clause-comes
returns-in-Back-clause-comes c = λ w. leave_back c.args.value c.in-Back.caller c.loop-task.tasks.items c.pop.new.self.items c.args.tasks.now.items c.loop-task.frames c.args.frames.now c.go_back.new.frames c.receive.new.frames c.receive.result w
    (popped _ _ _ _ c.in-Some.ensures.items c.in-Back.is) c.loop-task.invariant.frames (c.loop-task.invariant.same w) (c.go_back.ensures.state w) (c.receive.ensures.comes c.pop.new.self.items w)

pub returns-in-Bottom-clause-comes : goal.returns-in-Bottom-clause-comes
returns-in-Bottom-clause-comes c = λ w. leave_bottom c.args.value _ c.loop-task.tasks.items c.pop.new.self.items c.args.tasks.now.items c.loop-task.frames c.args.frames.now w
    (popped _ _ _ _ c.in-Some.ensures.items c.in-Bottom.is) c.loop-task.invariant.frames (c.loop-task.invariant.same w)
