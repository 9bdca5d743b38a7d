use Rattle.std.proofs.Common.{rules, Ok, Err, Some, true, SFits, w64, map, ap, sym, ◌∙◌, refl}
use Rattle.std.proofs.lemmas.Int.{to_z-of_z}
use Rattle.c_syntax.specs.View.{arg_of}
use Rattle.c_primitives.specs.declared.halt.Halt.TheVariants.{Broken, Stopped}
use Rattle.vlt_steps.specs.declared.stop.Stop.TheVariants.{BadAnswer}
use Rattle.c_primitives.specs.declared.world.Talk.TheVariants.{Reading}
use Rattle.c_primitives.proofs.Coming.{same_room, none_come, none_breaks}
use Rattle.c_primitives.proofs.Answering.{ready_reads, room_talk, answer_come, no_answer, answer_breaks}
use Rattle.c_values.specs.declared.value.Value.TheVariants.{Number}
use Rattle.c_primitives.proofs.world.World.int.Goals as goal

pub returns-then-not-is_none : goal.returns-then-not-is_none
returns-then-not-is_none c = λ b. record {
  ready = c.requires.ready;
  room = same_room c.args.self.now;
  comes = λ ts w h made. none_breaks ts c.args.self.now w b (map arg_of c.args.args.now) _ h (sym c.is_none.ensures ∙ c.if-not-is_none.true);
}

pub returns-in-Some-next : goal.returns-in-Some-next
returns-in-Some-next c = let fits : SFits w64 c.in-Some-next.first = search rules in λ b. record {
  ready = ready_reads c.args.self.now (record c.args.self.now { talk = Reading c.in-Some-next.rest }) c.in-Some-next.rest.now c.requires.ready refl;
  room = room_talk c.args.self.now (record c.args.self.now { talk = Reading c.in-Some-next.rest });
  comes = λ ts w h made. none_come ts _ w b b (map arg_of c.args.args.now) (Ok c.number_given.result) _ (sym c.is_none.ensures ∙ c.if-not-is_none.false) (answer_come ts c.args.self.now w b h c.in-Some.left.now c.in-Some.ensures.reads (λ z. true) (record c.args.self.now { talk = Reading c.in-Some-next.rest }) c.in-Some-next.first c.in-Some-next.rest.now c.number_given.result c.in-Some-next.ensures refl refl (c.number_given.ensures ∙ ap (λ z. Some (Number z)) (to_z-of_z w64 c.in-Some-next.first fits)));
}

pub returns-in-None : goal.returns-in-None
returns-in-None c = λ b. record {
  ready = c.requires.ready;
  room = same_room c.args.self.now;
  comes = λ ts w h made. none_come ts c.args.self.now w b b (map arg_of c.args.args.now) (Err (Stopped (BadAnswer c.args.self.now.taken))) _ (sym c.is_none.ensures ∙ c.if-not-is_none.false) (no_answer ts c.args.self.now w b h c.in-Some.left.now c.in-Some.ensures.reads (λ z. true) c.in-None.ensures);
}

pub returns-in_default : goal.returns-in_default
returns-in_default c = λ b. record {
  ready = c.requires.ready;
  room = same_room c.args.self.now;
  comes = λ ts w h made. none_come ts c.args.self.now w b b (map arg_of c.args.args.now) (Err (Broken 8)) _ (sym c.is_none.ensures ∙ c.if-not-is_none.false) (answer_breaks ts c.args.self.now w b h (λ z. true) c.in_default.ensures.other);
}
