use Rattle.std.proofs.Common.{Err, map, subst, sym, ◌∙◌, refl, arith}
use Rattle.vlt_io.specs.Outside.{Grew, GrewByPart}
use Rattle.c_syntax.specs.View.{arg_of}
use Rattle.c_primitives.specs.declared.halt.Halt.TheVariants.{Broken, Stopped}
use Rattle.vlt_steps.specs.declared.stop.Stop.TheVariants.{SinkFault}
use Rattle.c_primitives.specs.declared.world.Talk.TheVariants.{Idle}
use Rattle.c_primitives.proofs.Coming.{same_room, none_come, none_breaks}
use Rattle.c_primitives.proofs.Telling.{line_room, ask_come, ask_cut, ask_breaks, ready_asked_at, room_asked_at}
use Rattle.c_primitives.proofs.world.World.ask.Goals as goal

pub end-requires : goal.end-requires
end-requires g c = let k = line_room c.args.self.now.talk c.in-Some.field-0 _ _ (sym c.told_so_far.ensures ∙ c.in-Some.is) c.requires.ready.line in omega (arith, k.1)

pub returns-then-not-is_none : goal.returns-then-not-is_none
returns-then-not-is_none g c = record {
  ready = c.requires.ready;
  room = same_room c.args.self.now;
  comes = λ ts w h made. none_breaks ts c.args.self.now w (record { written = g.K.Sink.written c.args.sink.now; faults = g.K.Sink.faults c.args.sink.now }) (map arg_of c.args.args.now) _ h (sym c.is_none.ensures ∙ c.if-not-is_none.true);
}

pub returns-in_default : goal.returns-in_default
returns-in_default g c = record {
  ready = c.requires.ready;
  room = same_room c.args.self.now;
  comes = λ ts w h made. none_come ts c.args.self.now w (record { written = g.K.Sink.written c.args.sink.now; faults = g.K.Sink.faults c.args.sink.now }) (record { written = g.K.Sink.written c.args.sink.now; faults = g.K.Sink.faults c.args.sink.now }) (map arg_of c.args.args.now) (Err (Broken 8)) _ (sym c.is_none.ensures ∙ c.if-not-is_none.false) (ask_breaks ts c.args.self.now w (record { written = g.K.Sink.written c.args.sink.now; faults = g.K.Sink.faults c.args.sink.now }) h (sym c.told_so_far.ensures ∙ c.in_default.is));
}

pub returns-in-Ok : goal.returns-in-Ok
returns-in-Ok g c = record {
  ready = ready_asked_at c.args.self.now (record c.args.self.now { talk = Idle; line = c.end.new.line }) c.take_answer.new.self c.take_answer.result refl c.requires.ready refl c.take_answer.ensures;
  room = room_asked_at c.args.self.now (record c.args.self.now { talk = Idle; line = c.end.new.line }) c.take_answer.new.self c.take_answer.result refl c.end.ensures.room c.take_answer.ensures;
  comes = λ ts w h made. none_come ts c.take_answer.new.self w (record { written = g.K.Sink.written c.args.sink.now; faults = g.K.Sink.faults c.args.sink.now }) (record { written = g.K.Sink.written c.write.new.self; faults = g.K.Sink.faults c.write.new.self }) (map arg_of c.args.args.now) c.take_answer.result _ (sym c.is_none.ensures ∙ c.if-not-is_none.false)
      (ask_come ts c.args.self.now w (record { written = g.K.Sink.written c.args.sink.now; faults = g.K.Sink.faults c.args.sink.now }) (record { written = g.K.Sink.written c.write.new.self; faults = g.K.Sink.faults c.write.new.self }) h c.in-Some.field-0 (sym c.told_so_far.ensures ∙ c.in-Some.is) (record c.args.self.now { talk = Idle; line = c.end.new.line }) c.take_answer.new.self c.take_answer.result refl (subst (Grew (g.K.Sink.written c.args.sink.now) (g.K.Sink.written c.write.new.self)) (c.as_slice.ensures.value ∙ c.end.ensures.items) c.in-Ok.ensures.ok) c.in-Ok.ensures.counted c.take_answer.ensures);
}

pub returns-in-Err : goal.returns-in-Err
returns-in-Err g c = record {
  ready = record { sound = c.requires.ready.sound; heap = c.requires.ready.heap; cells = c.requires.ready.cells; line = tt };
  room = record { heap = refl; cells = refl; line = c.end.ensures.room };
  comes = λ ts w h made. none_come ts (record c.args.self.now { talk = Idle; line = c.end.new.line }) w (record { written = g.K.Sink.written c.args.sink.now; faults = g.K.Sink.faults c.args.sink.now }) (record { written = g.K.Sink.written c.write.new.self; faults = g.K.Sink.faults c.write.new.self }) (map arg_of c.args.args.now) (Err (Stopped SinkFault)) _ (sym c.is_none.ensures ∙ c.if-not-is_none.false) (ask_cut ts c.args.self.now w (record { written = g.K.Sink.written c.args.sink.now; faults = g.K.Sink.faults c.args.sink.now }) (record { written = g.K.Sink.written c.write.new.self; faults = g.K.Sink.faults c.write.new.self }) h c.in-Some.field-0 (sym c.told_so_far.ensures ∙ c.in-Some.is) (record c.args.self.now { talk = Idle; line = c.end.new.line }) (subst (GrewByPart (g.K.Sink.written c.args.sink.now) (g.K.Sink.written c.write.new.self)) (c.as_slice.ensures.value ∙ c.end.ensures.items) c.in-Err.ensures.part) c.in-Err.ensures.failed c.in-Err.ensures.counted);
}
