use Rattle.std.proofs.Common.{Ok, Err, None, map, sym, ◌∙◌}
use Rattle.c_syntax.specs.View.{arg_of}
use Rattle.c_primitives.specs.declared.halt.Halt.TheVariants.{Broken, Stopped}
use Rattle.vlt_steps.specs.declared.stop.Stop.TheVariants.{BadAnswer}
use Rattle.c_primitives.specs.declared.world.Talk.TheVariants.{Idle}
use Rattle.c_primitives.proofs.Coming.{same_room, none_come, none_breaks}
use Rattle.c_primitives.proofs.Answering.{ready_idle, room_talk, end_come, end_bad, end_breaks}
use Rattle.c_primitives.proofs.world.World.end.Goals as goal

pub returns-then-not-is_none : goal.returns-then-not-is_none
returns-then-not-is_none c = λ b. record {
  ready = c.requires.ready;
  room = same_room c.args.self.now;
  comes = λ ts w h made. none_breaks ts c.args.self.now w b (map arg_of c.args.args.now) _ h (sym c.is_none.ensures ∙ c.if-not-is_none.true);
}

pub returns-in-Some-next : goal.returns-in-Some-next
returns-in-Some-next c = λ b. record {
  ready = c.requires.ready;
  room = same_room c.args.self.now;
  comes = λ ts w h made. none_come ts c.args.self.now w b b (map arg_of c.args.args.now) (Err (Stopped (BadAnswer c.args.self.now.taken))) _ (sym c.is_none.ensures ∙ c.if-not-is_none.false) (end_bad ts c.args.self.now w b h c.in-Some.left.now c.in-Some.ensures.reads c.in-Some-next.field-0.0 c.in-Some-next.field-0.1.now c.in-Some-next.ensures);
}

pub returns-in-None : goal.returns-in-None
returns-in-None c = λ b. record {
  ready = ready_idle c.args.self.now c.requires.ready;
  room = room_talk c.args.self.now (record c.args.self.now { talk = Idle });
  comes = λ ts w h made. none_come ts _ w b b (map arg_of c.args.args.now) (Ok None) _ (sym c.is_none.ensures ∙ c.if-not-is_none.false) (end_come ts c.args.self.now w b h c.in-Some.left.now c.in-Some.ensures.reads c.in-None.ensures);
}

pub returns-in_default : goal.returns-in_default
returns-in_default c = λ b. record {
  ready = c.requires.ready;
  room = same_room c.args.self.now;
  comes = λ ts w h made. none_come ts c.args.self.now w b b (map arg_of c.args.args.now) (Err (Broken 8)) _ (sym c.is_none.ensures ∙ c.if-not-is_none.false) (end_breaks ts c.args.self.now w b h c.in_default.ensures.other);
}
