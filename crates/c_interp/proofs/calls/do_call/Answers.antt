use Rattle.std.proofs.Common.{map, ap, subst, sym, ◌∙◌, arith}
use Rattle.c_syntax.specs.C as cc
use Rattle.c_syntax.specs.View.{arg_of, call_of}
use Rattle.c_meaning.specs.Primitives.{primitive_does}
use Rattle.c_machine.specs.Machine as m
use Rattle.c_machine.specs.Machine.{vars_in}
use Rattle.c_primitives.specs.Shown.{Comes}
use Rattle.c_values.specs.Shown.{shown_vars}
use Rattle.c_interp.specs.Shown.{setup_of, state_of, tasks_of, CameTo}
use Rattle.c_interp.proofs.Setting.{vars_are, made_drop}
use Rattle.c_interp.proofs.calls.do_call.Goals as goal

pub returns-in-Primitive : goal.returns-in-Primitive
returns-in-Primitive g c = record {
  ready = c.primitive-value.ensures.ready;
  world = c.primitive-value.ensures.room;
  tasks = omega arith;
  slots = c.after.ensures.room;
  comes = λ things w h made.
      let vars = vars_are c.args.frames.now c.vars.result w c.vars.ensures.names c.vars.ensures.values in
      subst (λ x. CameTo w (record { written = g.K.Sink.written c.args.sink.now; faults = g.K.Sink.faults c.args.sink.now }) (record { written = g.K.Sink.written c.primitive-value.new.sink; faults = g.K.Sink.faults c.primitive-value.new.sink }) c.after.result c.args.tasks.now.items c.after.new.frames c.primitive-value.new.self (m.does_call (setup_of c.args.rules.now) c.args.n c.args.target x (tasks_of c.args.tasks.now.items) (state_of c.args.frames.now w))) (sym (ap call_of c.in-Primitive.is))
      (c.after.ensures.comes c.args.tasks.now.items things w c.primitive-value.new.self (record { written = g.K.Sink.written c.args.sink.now; faults = g.K.Sink.faults c.args.sink.now }) (record { written = g.K.Sink.written c.primitive-value.new.sink; faults = g.K.Sink.faults c.primitive-value.new.sink }) (primitive_does c.args.rules.now.heap c.in-Primitive.p (map arg_of c.in-Primitive.args) (vars_in (state_of c.args.frames.now w)) w) made
      (subst (λ k. Comes things c.primitive-value.new.self w (record { written = g.K.Sink.written c.args.sink.now; faults = g.K.Sink.faults c.args.sink.now }) (record { written = g.K.Sink.written c.primitive-value.new.sink; faults = g.K.Sink.faults c.primitive-value.new.sink }) c.primitive-value.result (primitive_does k c.in-Primitive.p (map arg_of c.in-Primitive.args) (vars_in (state_of c.args.frames.now w)) w)) c.requires.room.heap
      (subst (λ v. Comes things c.primitive-value.new.self w (record { written = g.K.Sink.written c.args.sink.now; faults = g.K.Sink.faults c.args.sink.now }) (record { written = g.K.Sink.written c.primitive-value.new.sink; faults = g.K.Sink.faults c.primitive-value.new.sink }) c.primitive-value.result (primitive_does c.args.world.now.heap c.in-Primitive.p (map arg_of c.in-Primitive.args) v w)) vars
      (subst (λ l. Comes things c.primitive-value.new.self w (record { written = g.K.Sink.written c.args.sink.now; faults = g.K.Sink.faults c.args.sink.now }) (record { written = g.K.Sink.written c.primitive-value.new.sink; faults = g.K.Sink.faults c.primitive-value.new.sink }) c.primitive-value.result (primitive_does c.args.world.now.heap c.in-Primitive.p (map arg_of l) (shown_vars c.vars.result) w)) c.as_slice.ensures
      (c.primitive-value.ensures.comes things w h (made_drop things c.args.frames.now.values.items c.vars.result.values.now c.args.frames.now.base c.vars.ensures.values made))))));
}

pub returns-in-Function : goal.returns-in-Function
returns-in-Function g c =
    let came = c.call.ensures (record { written = g.K.Sink.written c.args.sink.now; faults = g.K.Sink.faults c.args.sink.now }) in
    record {
      ready = came.ready;
      world = came.world;
      tasks = came.tasks;
      slots = came.slots;
      comes = λ things w h made.
          subst (λ x. CameTo w (record { written = g.K.Sink.written c.args.sink.now; faults = g.K.Sink.faults c.args.sink.now }) (record { written = g.K.Sink.written c.args.sink.now; faults = g.K.Sink.faults c.args.sink.now }) c.call.result c.call.new.tasks.items c.call.new.frames c.call.new.world (m.does_call (setup_of c.args.rules.now) c.args.n c.args.target x (tasks_of c.args.tasks.now.items) (state_of c.args.frames.now w)))
          (ap (λ l. cc.function c.in-Function.name (map arg_of l)) c.as_slice-in-Function.ensures ∙ sym (ap call_of c.in-Function.is)) (came.comes things w h made);
    }
