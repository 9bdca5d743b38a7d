use Rattle.std.proofs.Common.{rules, ap, SFits, w64, Err, map, sym, ◌∙◌}
use Rattle.std.proofs.lemmas.Int.{to_z-of_z}
use Rattle.c_meaning.specs.Primitives.{index_below}
use Rattle.c_syntax.specs.View.{arg_of}
use Rattle.c_values.specs.Shown.{shown_vars}
use Rattle.c_primitives.specs.declared.halt.Halt.TheVariants.{Broken}
use Rattle.c_primitives.proofs.Coming.{same_room, number_come, number_breaks}
use Rattle.c_primitives.proofs.Registering.{get_number_come, no_number}
use Rattle.c_primitives.proofs.world.World.get_number.Goals as goal

pub returns-in-Some : goal.returns-in-Some
returns-in-Some c = let fits : SFits w64 c.in-Ok.i = search rules in λ b. record {
  ready = c.requires.ready;
  room = same_room c.args.self.now;
  comes = λ ts w h made. number_come ts c.args.self.now w b b (map arg_of c.args.args.now) (shown_vars c.args.vars) c.number_value.result c.one_number.result c.in-Ok.i _ c.in-Ok.is (c.one_number.ensures ts made) (get_number_come ts c.args.self.now w b c.in-Ok.i h c.in-Some.j c.at.result c.number_value.result (sym c.in-Some.is ∙ c.place.ensures.is ∙ ap (index_below _) (to_z-of_z w64 c.in-Ok.i fits)) c.at.ensures c.number_value.ensures);
}

pub returns-in-None : goal.returns-in-None
returns-in-None c = let fits : SFits w64 c.in-Ok.i = search rules in λ b. record {
  ready = c.requires.ready;
  room = same_room c.args.self.now;
  comes = λ ts w h made. number_come ts c.args.self.now w b b (map arg_of c.args.args.now) (shown_vars c.args.vars) (Err (Broken 7)) c.one_number.result c.in-Ok.i _ c.in-Ok.is (c.one_number.ensures ts made) (no_number ts c.args.self.now w b c.in-Ok.i h (sym c.in-None.is ∙ c.place.ensures.is ∙ ap (index_below _) (to_z-of_z w64 c.in-Ok.i fits)));
}

pub returns-in-Err : goal.returns-in-Err
returns-in-Err c = λ b. record {
  ready = c.requires.ready;
  room = same_room c.args.self.now;
  comes = λ ts w h made. number_breaks ts c.args.self.now w b (map arg_of c.args.args.now) (shown_vars c.args.vars) c.in-Err.rule h c.one_number.result _ c.in-Err.is (c.one_number.ensures ts made);
}
