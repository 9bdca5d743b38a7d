use Rattle.std.proofs.Common.{rules, subst, SFits, w64, map}
use Rattle.std.proofs.lemmas.Int.{to_z-of_z}
use Rattle.c_syntax.specs.View.{arg_of}
use Rattle.c_values.specs.Shown.{shown_vars}
use Rattle.c_meaning.specs.Primitives.{reads_answer, is_bit_of}
use Rattle.c_primitives.specs.Shown.{Comes}
use Rattle.c_primitives.proofs.Coming.{same_room, number_come, number_breaks}
use Rattle.c_primitives.proofs.world.World.pick.Goals as goal

pub returns-in-Ok : goal.returns-in-Ok
returns-in-Ok c = let fits : SFits w64 c.in-Ok.mask = search rules in λ b. record {
  ready = (c.pick_one.ensures b).ready;
  room = (c.pick_one.ensures b).room;
  comes = λ ts w h made. number_come ts c.pick_one.new.self w b b (map arg_of c.args.args.now) (shown_vars c.args.vars) c.pick_one.result c.one_number.result c.in-Ok.mask _ c.in-Ok.is (c.one_number.ensures ts made)
      (subst (λ m. Comes ts c.pick_one.new.self w b b c.pick_one.result (reads_answer (is_bit_of m) w.talk w)) (to_z-of_z w64 c.in-Ok.mask fits) ((c.pick_one.ensures b).comes ts w h made));
}

pub returns-in-Err : goal.returns-in-Err
returns-in-Err c = λ b. record {
  ready = c.requires.ready;
  room = same_room c.args.self.now;
  comes = λ ts w h made. number_breaks ts c.args.self.now w b (map arg_of c.args.args.now) (shown_vars c.args.vars) c.in-Err.rule h c.one_number.result _ c.in-Err.is (c.one_number.ensures ts made);
}
