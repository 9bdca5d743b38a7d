use Rattle.std.proofs.Common.{rules, Ok, Some, SFits, w64, map, ap, sym, ◌∙◌}
use Rattle.std.proofs.lemmas.Int.{to_z-of_z}
use Rattle.c_syntax.specs.View.{arg_of}
use Rattle.c_primitives.proofs.Coming.{same_room, none_come, none_breaks}
use Rattle.c_primitives.proofs.Answering.{more_come}
use Rattle.c_values.specs.declared.value.Value.TheVariants.{Number}
use Rattle.c_primitives.proofs.world.World.more.Goals as goal

pub returns-then-not-is_none : goal.returns-then-not-is_none
returns-then-not-is_none c = λ b. record {
  ready = c.requires.ready;
  room = same_room c.args.self.now;
  comes = λ ts w h made. none_breaks ts c.args.self.now w b (map arg_of c.args.args.now) _ h (sym c.is_none.ensures ∙ c.if-not-is_none.true);
}

pub returns : goal.returns
returns c = let fits : SFits w64 c.has_more.result = search rules in λ b. record {
  ready = c.requires.ready;
  room = same_room c.args.self.now;
  comes = λ ts w h made. none_come ts c.args.self.now w b b (map arg_of c.args.args.now) (Ok c.number_given.result) _ (sym c.is_none.ensures ∙ c.if-not-is_none.false) (more_come ts c.args.self.now w b h c.has_more.result c.number_given.result c.has_more.ensures (c.number_given.ensures ∙ ap (λ z. Some (Number z)) (to_z-of_z w64 c.has_more.result fits)));
}
