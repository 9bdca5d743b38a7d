use Rattle.std.proofs.Common.{rules, Ok, Err, Some, SFits, w64, map, ap, sym, ◌∙◌, refl}
use Rattle.std.proofs.lemmas.Int.{to_z-of_z}
use Rattle.c_syntax.specs.View.{arg_of}
use Rattle.c_primitives.specs.declared.halt.Halt.TheVariants.{Stopped}
use Rattle.vlt_steps.specs.declared.stop.Stop.TheVariants.{InputEnd}
use Rattle.c_primitives.proofs.Coming.{same_room, none_come, none_breaks}
use Rattle.c_primitives.proofs.Answering.{ready_input, room_input, read_come, no_input}
use Rattle.c_values.specs.declared.value.Value.TheVariants.{Number}
use Rattle.c_primitives.proofs.world.World.read.Goals as goal

pub returns-then-not-is_none : goal.returns-then-not-is_none
returns-then-not-is_none c = λ b. record {
  ready = c.requires.ready;
  room = same_room c.args.self.now;
  comes = λ ts w h made. none_breaks ts c.args.self.now w b (map arg_of c.args.args.now) _ h (sym c.is_none.ensures ∙ c.if-not-is_none.true);
}

pub returns-in-Some : goal.returns-in-Some
returns-in-Some c = let fits : SFits w64 c.in-Some.first = search rules in λ b. record {
  ready = ready_input c.args.self.now (record c.args.self.now { input = c.in-Some.rest }) c.requires.ready;
  room = room_input c.args.self.now (record c.args.self.now { input = c.in-Some.rest });
  comes = λ ts w h made. none_come ts _ w b b (map arg_of c.args.args.now) (Ok c.number_given.result) _ (sym c.is_none.ensures ∙ c.if-not-is_none.false) (read_come ts c.args.self.now w b h (record c.args.self.now { input = c.in-Some.rest }) c.in-Some.first c.in-Some.rest.now c.number_given.result c.in-Some.ensures refl (c.number_given.ensures ∙ ap (λ z. Some (Number z)) (to_z-of_z w64 c.in-Some.first fits)));
}

pub returns-in-None : goal.returns-in-None
returns-in-None c = λ b. record {
  ready = c.requires.ready;
  room = same_room c.args.self.now;
  comes = λ ts w h made. none_come ts c.args.self.now w b b (map arg_of c.args.args.now) (Err (Stopped InputEnd)) _ (sym c.is_none.ensures ∙ c.if-not-is_none.false) (no_input ts c.args.self.now w b h c.in-None.ensures);
}
