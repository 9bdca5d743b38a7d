use Rattle.std.proofs.Common.{refl, subst, sym}
use Rattle.std.specs.Option.{option_map}
use Rattle.c_syntax.specs.View.{expr_of}
use Rattle.c_machine.specs.Machine as m
use Rattle.c_primitives.proofs.Coming.{silent}
use Rattle.c_interp.specs.Shown.{state_of, tasks_of, CameTo}
use Rattle.c_interp.proofs.Plain.{plain_came}
use Rattle.c_interp.proofs.Entering.{keeps_room}
use Rattle.c_interp.proofs.step.returns.Goals as goal

pub returns-in-None : goal.returns-in-None
returns-in-None c = λ b. record {
  ready = c.requires.ready;
  world = keeps_room c.args.world.now;
  tasks = c.leave.ensures.room;
  slots = c.leave.ensures.kept.room;
  comes = λ things w h made.
      subst (λ o. CameTo w b b c.leave.result c.leave.new.tasks.items c.leave.new.frames c.args.world.now (m.returns c.args.n (option_map expr_of o) (tasks_of c.args.tasks.now.items) (state_of c.args.frames.now w))) (sym c.in-None.is)
      (plain_came w w b b c.leave.new.tasks.items c.leave.new.frames c.args.world.now things c.leave.result _ h (c.leave.ensures.kept.made things tt made) (silent w w b refl) (c.leave.ensures.comes w));
}

pub returns-in-Some : goal.returns-in-Some
returns-in-Some c = λ b.
    let came = c.give_back.ensures b in
    record {
      ready = came.ready;
      world = came.world;
      tasks = came.tasks;
      slots = came.slots;
      comes = λ things w h made.
          subst (λ o. CameTo w b b c.give_back.result c.give_back.new.tasks.items c.give_back.new.frames c.args.world.now (m.returns c.args.n (option_map expr_of o) (tasks_of c.args.tasks.now.items) (state_of c.args.frames.now w))) (sym c.in-Some.is) (came.comes things w h made);
    }
