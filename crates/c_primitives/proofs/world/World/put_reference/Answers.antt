use Rattle.std.proofs.Common.{rules, ap, SFits, w64, Ok, Err, None, map, sym, ◌∙◌}
use Rattle.std.proofs.lemmas.Int.{to_z-of_z}
use Rattle.c_meaning.specs.Primitives.{index_below}
use Rattle.c_syntax.specs.View.{arg_of}
use Rattle.c_values.specs.Shown.{shown_vars}
use Rattle.c_memory.specs.Shown.{number_of}
use Rattle.c_primitives.specs.declared.halt.Halt.TheVariants.{Broken}
use Rattle.c_primitives.proofs.Coming.{same_room, number_and_reference_come, number_and_reference_breaks}
use Rattle.c_primitives.proofs.Registering.{put_reference_come, no_put_reference, ready_references, room_references}
use Rattle.c_primitives.proofs.world.World.put_reference.Goals as goal

pub returns-in-Some : goal.returns-in-Some
returns-in-Some c = let fits : SFits w64 c.in-Ok.i = search rules in λ b. record {
  ready = ready_references c.args.self.now (record c.args.self.now { references = c.set.new.registers }) c.requires.ready;
  room = room_references c.args.self.now (record c.args.self.now { references = c.set.new.registers });
  comes = λ ts w h made. number_and_reference_come ts _ w b b (map arg_of c.args.args.now) (shown_vars c.args.vars) (Ok None) c.number_and_reference.result c.in-Ok.i c.in-Ok.p _ c.in-Ok.is (c.number_and_reference.ensures ts made) (λ m. put_reference_come ts c.args.self.now w b c.in-Ok.i h (record c.args.self.now { references = c.set.new.registers }) c.in-Ok.p c.in-Some.j m (sym c.in-Some.is ∙ c.place.ensures.is ∙ ap (index_below _) (to_z-of_z w64 c.in-Ok.i fits)) c.set.ensures);
}

pub returns-in-None : goal.returns-in-None
returns-in-None c = let fits : SFits w64 c.in-Ok.i = search rules in λ b. record {
  ready = c.requires.ready;
  room = same_room c.args.self.now;
  comes = λ ts w h made. number_and_reference_come ts c.args.self.now w b b (map arg_of c.args.args.now) (shown_vars c.args.vars) (Err (Broken 7)) c.number_and_reference.result c.in-Ok.i c.in-Ok.p _ c.in-Ok.is (c.number_and_reference.ensures ts made) (λ m. no_put_reference ts c.args.self.now w b c.in-Ok.i h (number_of c.in-Ok.p) (sym c.in-None.is ∙ c.place.ensures.is ∙ ap (index_below _) (to_z-of_z w64 c.in-Ok.i fits)));
}

pub returns-in-Err : goal.returns-in-Err
returns-in-Err c = λ b. record {
  ready = c.requires.ready;
  room = same_room c.args.self.now;
  comes = λ ts w h made. number_and_reference_breaks ts c.args.self.now w b (map arg_of c.args.args.now) (shown_vars c.args.vars) c.in-Err.rule h c.number_and_reference.result _ c.in-Err.is (c.number_and_reference.ensures ts made);
}
