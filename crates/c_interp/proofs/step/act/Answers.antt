use Rattle.std.proofs.Common.{None, refl, ap, subst, sym, ◌∙◌, arith}
use Rattle.c_syntax.specs.C as cc
use Rattle.c_syntax.specs.View.{expr_of, stmt_of, stmts_of}
use Rattle.c_meaning.specs.Primitives.{set_does, put_does}
use Rattle.c_machine.specs.Machine as m
use Rattle.c_machine.specs.Machine.{vars_in}
use Rattle.c_primitives.specs.Shown.{Comes}
use Rattle.c_primitives.proofs.Coming.{silent}
use Rattle.c_interp.specs.Shown.{setup_of, state_of, tasks_of, CameTo, IsPlain}
use Rattle.c_interp.proofs.Setting.{vars_are, made_drop}
use Rattle.c_interp.proofs.Plain.{plain_came}
use Rattle.c_interp.proofs.Entering.{keeps_room}
use Rattle.c_interp.proofs.Forms.{set_seen, set_call_seen, call_seen, put_seen, when_seen, choose_seen, loop_seen, break_seen, continue_seen, return_seen}
use Rattle.c_interp.proofs.StepLaws.{goes_here}
use Rattle.c_interp.proofs.Tasks.{pushed_one}
use Rattle.c_interp.proofs.step.act.Goals as goal

pub returns-in-Set : goal.returns-in-Set
returns-in-Set g c = record {
  ready = (c.set-value.ensures (record { written = g.K.Sink.written c.args.sink.now; faults = g.K.Sink.faults c.args.sink.now })).ready;
  world = (c.set-value.ensures (record { written = g.K.Sink.written c.args.sink.now; faults = g.K.Sink.faults c.args.sink.now })).room;
  tasks = omega arith;
  slots = c.after.ensures.room;
  comes = λ things w h made.
      subst (λ x. CameTo w (record { written = g.K.Sink.written c.args.sink.now; faults = g.K.Sink.faults c.args.sink.now }) (record { written = g.K.Sink.written c.args.sink.now; faults = g.K.Sink.faults c.args.sink.now }) c.after.result c.args.tasks.now.items c.after.new.frames c.set-value.new.self (m.act (setup_of c.args.rules.now) c.args.n x (tasks_of c.args.tasks.now.items) (state_of c.args.frames.now w))) (sym (ap stmt_of c.in-Set.is ∙ set_seen c.in-Set.v c.in-Set.e))
      (c.after.ensures.comes c.args.tasks.now.items things w c.set-value.new.self (record { written = g.K.Sink.written c.args.sink.now; faults = g.K.Sink.faults c.args.sink.now }) (record { written = g.K.Sink.written c.args.sink.now; faults = g.K.Sink.faults c.args.sink.now }) (set_does (expr_of c.in-Set.e) (vars_in (state_of c.args.frames.now w)) w) made
      (subst (λ v. Comes things c.set-value.new.self w (record { written = g.K.Sink.written c.args.sink.now; faults = g.K.Sink.faults c.args.sink.now }) (record { written = g.K.Sink.written c.args.sink.now; faults = g.K.Sink.faults c.args.sink.now }) c.set-value.result (set_does (expr_of c.in-Set.e) v w)) (vars_are c.args.frames.now c.vars.result w c.vars.ensures.names c.vars.ensures.values)
      ((c.set-value.ensures (record { written = g.K.Sink.written c.args.sink.now; faults = g.K.Sink.faults c.args.sink.now })).comes things w h (made_drop things c.args.frames.now.values.items c.vars.result.values.now c.args.frames.now.base c.vars.ensures.values made))));
}

pub returns-in-Put : goal.returns-in-Put
returns-in-Put g c = record {
  ready = (c.put-value.ensures (record { written = g.K.Sink.written c.args.sink.now; faults = g.K.Sink.faults c.args.sink.now })).ready;
  world = (c.put-value.ensures (record { written = g.K.Sink.written c.args.sink.now; faults = g.K.Sink.faults c.args.sink.now })).room;
  tasks = omega arith;
  slots = c.after-in-Put.ensures.room;
  comes = λ things w h made.
      subst (λ x. CameTo w (record { written = g.K.Sink.written c.args.sink.now; faults = g.K.Sink.faults c.args.sink.now }) (record { written = g.K.Sink.written c.args.sink.now; faults = g.K.Sink.faults c.args.sink.now }) c.after-in-Put.result c.args.tasks.now.items c.after-in-Put.new.frames c.put-value.new.self (m.act (setup_of c.args.rules.now) c.args.n x (tasks_of c.args.tasks.now.items) (state_of c.args.frames.now w))) (sym (ap stmt_of c.in-Put.is ∙ put_seen c.in-Put.cell c.in-Put.e))
      (c.after-in-Put.ensures.comes c.args.tasks.now.items things w c.put-value.new.self (record { written = g.K.Sink.written c.args.sink.now; faults = g.K.Sink.faults c.args.sink.now }) (record { written = g.K.Sink.written c.args.sink.now; faults = g.K.Sink.faults c.args.sink.now }) (put_does c.in-Put.cell (expr_of c.in-Put.e) (vars_in (state_of c.args.frames.now w)) w) made
      (subst (λ v. Comes things c.put-value.new.self w (record { written = g.K.Sink.written c.args.sink.now; faults = g.K.Sink.faults c.args.sink.now }) (record { written = g.K.Sink.written c.args.sink.now; faults = g.K.Sink.faults c.args.sink.now }) c.put-value.result (put_does c.in-Put.cell (expr_of c.in-Put.e) v w)) (vars_are c.args.frames.now c.vars-in-Put.result w c.vars-in-Put.ensures.names c.vars-in-Put.ensures.values)
      ((c.put-value.ensures (record { written = g.K.Sink.written c.args.sink.now; faults = g.K.Sink.faults c.args.sink.now })).comes things w h (made_drop things c.args.frames.now.values.items c.vars-in-Put.result.values.now c.args.frames.now.base c.vars-in-Put.ensures.values made))));
}

pub returns-in-SetCall : goal.returns-in-SetCall
returns-in-SetCall g c =
    let came = c.do_call.ensures in
    record {
      ready = came.ready;
      world = came.world;
      tasks = came.tasks;
      slots = came.slots;
      comes = λ things w h made.
          subst (λ x. CameTo w (record { written = g.K.Sink.written c.args.sink.now; faults = g.K.Sink.faults c.args.sink.now }) (record { written = g.K.Sink.written c.do_call.new.sink; faults = g.K.Sink.faults c.do_call.new.sink }) c.do_call.result c.do_call.new.tasks.items c.do_call.new.frames c.do_call.new.world (m.act (setup_of c.args.rules.now) c.args.n x (tasks_of c.args.tasks.now.items) (state_of c.args.frames.now w))) (sym (ap stmt_of c.in-SetCall.is ∙ set_call_seen c.in-SetCall.v c.in-SetCall.call)) (came.comes things w h made);
    }

pub returns-in-Call : goal.returns-in-Call
returns-in-Call g c =
    let came = c.do_call-in-Call.ensures in
    record {
      ready = came.ready;
      world = came.world;
      tasks = came.tasks;
      slots = came.slots;
      comes = λ things w h made.
          subst (λ x. CameTo w (record { written = g.K.Sink.written c.args.sink.now; faults = g.K.Sink.faults c.args.sink.now }) (record { written = g.K.Sink.written c.do_call-in-Call.new.sink; faults = g.K.Sink.faults c.do_call-in-Call.new.sink }) c.do_call-in-Call.result c.do_call-in-Call.new.tasks.items c.do_call-in-Call.new.frames c.do_call-in-Call.new.world (m.act (setup_of c.args.rules.now) c.args.n x (tasks_of c.args.tasks.now.items) (state_of c.args.frames.now w))) (sym (ap stmt_of c.in-Call.is ∙ call_seen c.in-Call.call)) (came.comes things w h made);
    }

pub returns-in-If : goal.returns-in-If
returns-in-If g c =
    let came = c.when.ensures (setup_of c.args.rules.now) (record { written = g.K.Sink.written c.args.sink.now; faults = g.K.Sink.faults c.args.sink.now }) in
    record {
      ready = came.ready;
      world = came.world;
      tasks = came.tasks;
      slots = came.slots;
      comes = λ things w h made.
          subst (λ x. CameTo w (record { written = g.K.Sink.written c.args.sink.now; faults = g.K.Sink.faults c.args.sink.now }) (record { written = g.K.Sink.written c.args.sink.now; faults = g.K.Sink.faults c.args.sink.now }) c.when.result c.when.new.tasks.items c.args.frames.now c.args.world.now (m.act (setup_of c.args.rules.now) c.args.n x (tasks_of c.args.tasks.now.items) (state_of c.args.frames.now w))) (ap (λ l. cc.when (expr_of c.in-If.e) (stmts_of l)) c.as_slice.ensures ∙ sym (ap stmt_of c.in-If.is ∙ when_seen c.in-If.e c.in-If.xs)) (came.comes things w h made);
    }

pub returns-in-IfElse : goal.returns-in-IfElse
returns-in-IfElse g c =
    let came = c.choose.ensures (setup_of c.args.rules.now) (record { written = g.K.Sink.written c.args.sink.now; faults = g.K.Sink.faults c.args.sink.now }) in
    record {
      ready = came.ready;
      world = came.world;
      tasks = came.tasks;
      slots = came.slots;
      comes = λ things w h made.
          subst (λ x. CameTo w (record { written = g.K.Sink.written c.args.sink.now; faults = g.K.Sink.faults c.args.sink.now }) (record { written = g.K.Sink.written c.args.sink.now; faults = g.K.Sink.faults c.args.sink.now }) c.choose.result c.choose.new.tasks.items c.args.frames.now c.args.world.now (m.act (setup_of c.args.rules.now) c.args.n x (tasks_of c.args.tasks.now.items) (state_of c.args.frames.now w))) (ap (λ l. cc.choose (expr_of c.in-IfElse.e) (stmts_of l) (stmts_of c.as_slice-in-IfElse-2.result.now)) c.as_slice-in-IfElse.ensures ∙ ap (λ l. cc.choose (expr_of c.in-IfElse.e) (stmts_of c.in-IfElse.xs) (stmts_of l)) c.as_slice-in-IfElse-2.ensures ∙ sym (ap stmt_of c.in-IfElse.is ∙ choose_seen c.in-IfElse.e c.in-IfElse.xs c.in-IfElse.ys)) (came.comes things w h made);
    }

pub returns-in-Break : goal.returns-in-Break
returns-in-Break g c = record {
  ready = c.requires.room.ready;
  world = keeps_room c.args.world.now;
  tasks = c.break_to.ensures.room;
  slots = omega arith;
  comes = λ things w h made.
      subst (λ x. CameTo w (record { written = g.K.Sink.written c.args.sink.now; faults = g.K.Sink.faults c.args.sink.now }) (record { written = g.K.Sink.written c.args.sink.now; faults = g.K.Sink.faults c.args.sink.now }) c.break_to.result c.break_to.new.tasks.items c.args.frames.now c.args.world.now (m.act (setup_of c.args.rules.now) c.args.n x (tasks_of c.args.tasks.now.items) (state_of c.args.frames.now w))) (sym (ap stmt_of c.in-Break.is ∙ break_seen))
      (plain_came w w (record { written = g.K.Sink.written c.args.sink.now; faults = g.K.Sink.faults c.args.sink.now }) (record { written = g.K.Sink.written c.args.sink.now; faults = g.K.Sink.faults c.args.sink.now }) c.break_to.new.tasks.items c.args.frames.now c.args.world.now things c.break_to.result _ h made (silent w w (record { written = g.K.Sink.written c.args.sink.now; faults = g.K.Sink.faults c.args.sink.now }) refl) (subst (λ k. IsPlain c.break_to.result c.break_to.new.tasks.items c.args.frames.now w (m.break_to k (tasks_of c.args.tasks.now.items) (state_of c.args.frames.now w))) c.requires.room.rules.count (c.break_to.ensures.comes c.args.frames.now w)));
}

pub returns-in-Continue : goal.returns-in-Continue
returns-in-Continue g c = record {
  ready = c.requires.room.ready;
  world = keeps_room c.args.world.now;
  tasks = c.continue_to.ensures.room;
  slots = omega arith;
  comes = λ things w h made.
      subst (λ x. CameTo w (record { written = g.K.Sink.written c.args.sink.now; faults = g.K.Sink.faults c.args.sink.now }) (record { written = g.K.Sink.written c.args.sink.now; faults = g.K.Sink.faults c.args.sink.now }) c.continue_to.result c.continue_to.new.tasks.items c.args.frames.now c.args.world.now (m.act (setup_of c.args.rules.now) c.args.n x (tasks_of c.args.tasks.now.items) (state_of c.args.frames.now w))) (sym (ap stmt_of c.in-Continue.is ∙ continue_seen))
      (plain_came w w (record { written = g.K.Sink.written c.args.sink.now; faults = g.K.Sink.faults c.args.sink.now }) (record { written = g.K.Sink.written c.args.sink.now; faults = g.K.Sink.faults c.args.sink.now }) c.continue_to.new.tasks.items c.args.frames.now c.args.world.now things c.continue_to.result _ h made (silent w w (record { written = g.K.Sink.written c.args.sink.now; faults = g.K.Sink.faults c.args.sink.now }) refl) (subst (λ k. IsPlain c.continue_to.result c.continue_to.new.tasks.items c.args.frames.now w (m.continue_to k (tasks_of c.args.tasks.now.items) (state_of c.args.frames.now w))) c.requires.room.rules.count (c.continue_to.ensures.comes c.args.frames.now w)));
}

pub returns-in-While : goal.returns-in-While
returns-in-While g c = record {
  ready = c.requires.room.ready;
  world = keeps_room c.args.world.now;
  tasks = c.put.ensures.room;
  slots = omega arith;
  comes = λ things w h made.
      subst (λ x. CameTo w (record { written = g.K.Sink.written c.args.sink.now; faults = g.K.Sink.faults c.args.sink.now }) (record { written = g.K.Sink.written c.args.sink.now; faults = g.K.Sink.faults c.args.sink.now }) None c.put.new.items.items c.args.frames.now c.args.world.now (m.act (setup_of c.args.rules.now) c.args.n x (tasks_of c.args.tasks.now.items) (state_of c.args.frames.now w))) (ap (λ l. cc.loop (stmts_of l)) c.as_slice-in-While.ensures ∙ sym (ap stmt_of c.in-While.is ∙ loop_seen c.in-While.body))
      (goes_here things c.args.world.now w (record { written = g.K.Sink.written c.args.sink.now; faults = g.K.Sink.faults c.args.sink.now }) c.args.frames.now c.put.new.items.items _ h made (sym (pushed_one c.args.tasks.now.items c.put.new.items.items _ c.put.ensures.items)));
}

pub returns-in-Return : goal.returns-in-Return
returns-in-Return g c =
    let came = c.returns.ensures (record { written = g.K.Sink.written c.args.sink.now; faults = g.K.Sink.faults c.args.sink.now }) in
    record {
      ready = came.ready;
      world = came.world;
      tasks = came.tasks;
      slots = came.slots;
      comes = λ things w h made.
          subst (λ x. CameTo w (record { written = g.K.Sink.written c.args.sink.now; faults = g.K.Sink.faults c.args.sink.now }) (record { written = g.K.Sink.written c.args.sink.now; faults = g.K.Sink.faults c.args.sink.now }) c.returns.result c.returns.new.tasks.items c.returns.new.frames c.args.world.now (m.act (setup_of c.args.rules.now) c.args.n x (tasks_of c.args.tasks.now.items) (state_of c.args.frames.now w))) (sym (ap stmt_of c.in-Return.is ∙ return_seen c.in-Return.value)) (came.comes things w h made);
    }
