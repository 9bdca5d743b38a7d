use Rattle.std.proofs.Common.{rules, ap, SFits, w64, Err, map, ◌∙◌}
use Rattle.c_syntax.specs.View.{arg_of}
use Rattle.c_values.specs.Shown.{shown_vars}
use Rattle.std.proofs.lemmas.Int.{to_z-of_z}
use Rattle.c_primitives.specs.Done.{halt_of_trap}
use Rattle.c_primitives.proofs.Coming.{same_room, number_come, number_breaks, trap_come}
use Rattle.c_primitives.proofs.world.World.trap.Goals as goal

pub returns-in-Ok : goal.returns-in-Ok
returns-in-Ok c = let fits : SFits w64 c.in-Ok.z = search rules in λ b. record {
  ready = c.requires.ready;
  room = same_room c.args.self.now;
  comes = λ ts w h made. number_come ts c.args.self.now w b b (map arg_of c.args.args.now) (shown_vars c.args.vars) (Err c.trapped.result) c.one_number.result c.in-Ok.z _ c.in-Ok.is (c.one_number.ensures ts made) (trap_come ts c.args.self.now w b c.in-Ok.z c.trapped.result h (c.trapped.ensures ∙ ap halt_of_trap (to_z-of_z w64 c.in-Ok.z fits)));
}

pub returns-in-Err : goal.returns-in-Err
returns-in-Err c = λ b. record {
  ready = c.requires.ready;
  room = same_room c.args.self.now;
  comes = λ ts w h made. number_breaks ts c.args.self.now w b (map arg_of c.args.args.now) (shown_vars c.args.vars) c.in-Err.rule h c.one_number.result _ c.in-Err.is (c.one_number.ensures ts made);
}
