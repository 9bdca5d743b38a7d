use Rattle.std.proofs.Common.{Some, slice_set, rules, ap, SFits, w64, Ok, Err, None, map, sym, ◌∙◌}
use Rattle.std.proofs.lemmas.Int.{to_z-of_z}
use Rattle.c_meaning.specs.Primitives.{index_below}
use Rattle.c_syntax.specs.View.{arg_of}
use Rattle.c_values.specs.Shown.{shown_vars}
use Rattle.c_primitives.specs.declared.halt.Halt.TheVariants.{Broken}
use Rattle.c_primitives.proofs.Coming.{same_room, numbers_come, numbers_break}
use Rattle.c_primitives.proofs.Registering.{put_number_come, no_put_number, ready_numbers, room_numbers}
use Rattle.c_primitives.proofs.world.World.put_number.Goals as goal

pub returns-in-Some : goal.returns-in-Some
returns-in-Some c = let fits_z : SFits w64 c.in-Ok.z = search rules in let fits : SFits w64 c.in-Ok.i = search rules in λ b. record {
  ready = ready_numbers c.args.self.now (record c.args.self.now { numbers = c.set.new.registers }) c.requires.ready;
  room = room_numbers c.args.self.now (record c.args.self.now { numbers = c.set.new.registers });
  comes = λ ts w h made. numbers_come ts _ w b b (map arg_of c.args.args.now) (shown_vars c.args.vars) (Ok None) c.two_numbers.result c.in-Ok.i c.in-Ok.z _ c.in-Ok.is (c.two_numbers.ensures ts made) (put_number_come ts c.args.self.now w b c.in-Ok.i h (record c.args.self.now { numbers = c.set.new.registers }) c.in-Ok.z c.in-Some.j (sym c.in-Some.is ∙ c.place.ensures.is ∙ ap (index_below _) (to_z-of_z w64 c.in-Ok.i fits)) (c.set.ensures ∙ ap (λ z. slice_set c.args.self.now.numbers.items c.in-Some.j (Some z)) (to_z-of_z w64 c.in-Ok.z fits_z)));
}

pub returns-in-None : goal.returns-in-None
returns-in-None c = let fits : SFits w64 c.in-Ok.i = search rules in λ b. record {
  ready = c.requires.ready;
  room = same_room c.args.self.now;
  comes = λ ts w h made. numbers_come ts c.args.self.now w b b (map arg_of c.args.args.now) (shown_vars c.args.vars) (Err (Broken 7)) c.two_numbers.result c.in-Ok.i c.in-Ok.z _ c.in-Ok.is (c.two_numbers.ensures ts made) (no_put_number ts c.args.self.now w b c.in-Ok.i h c.in-Ok.z (sym c.in-None.is ∙ c.place.ensures.is ∙ ap (index_below _) (to_z-of_z w64 c.in-Ok.i fits)));
}

pub returns-in-Err : goal.returns-in-Err
returns-in-Err c = λ b. record {
  ready = c.requires.ready;
  room = same_room c.args.self.now;
  comes = λ ts w h made. numbers_break ts c.args.self.now w b (map arg_of c.args.args.now) (shown_vars c.args.vars) c.in-Err.rule h c.two_numbers.result _ c.in-Err.is (c.two_numbers.ensures ts made);
}
