use Rattle.std.proofs.Common.{Err, map, sym, ◌∙◌}
use Rattle.c_syntax.specs.View.{arg_of}
use Rattle.c_values.specs.Shown.{shown_vars}
use Rattle.c_memory.specs.Shown.{number_of}
use Rattle.c_primitives.specs.declared.halt.Halt.TheVariants.{Broken}
use Rattle.c_primitives.proofs.Coming.{ready_blocks, room_blocks, same_room, reference_come, reference_breaks, while_come, while_breaks, back_come}
use Rattle.c_primitives.proofs.world.World.back.Goals as goal

pub returns-then-not-is_reading : goal.returns-then-not-is_reading
returns-then-not-is_reading c = λ b. record {
  ready = c.requires.ready;
  room = same_room c.args.self.now;
  comes = λ ts w h made. reference_come ts c.args.self.now w b b (map arg_of c.args.args.now) (shown_vars c.args.vars) (Err (Broken 8)) c.one_reference.result c.in-Ok.block _ c.in-Ok.is (c.one_reference.ensures ts made)
      (λ m. while_breaks ts c.args.self.now w b _ h (sym c.is_reading.ensures ∙ c.if-not-is_reading.true));
}

pub returns-else-not-is_reading : goal.returns-else-not-is_reading
returns-else-not-is_reading c = λ b. record {
  ready = ready_blocks c.args.self.now c.back.new.self c.requires.ready c.back.ensures.sound c.back.ensures.heap c.back.ensures.cells;
  room = room_blocks c.args.self.now c.back.new.self c.back.ensures.cells;
  comes = λ ts w h made. reference_come ts _ w b b (map arg_of c.args.args.now) (shown_vars c.args.vars) c.returned.result c.one_reference.result c.in-Ok.block _ c.in-Ok.is (c.one_reference.ensures ts made)
      (λ m. while_come ts _ w b c.args.self.now c.returned.result _ h (sym c.is_reading.ensures ∙ c.if-not-is_reading.false) (back_come c.args.self.now c.back.new.self ts w b c.back.result (number_of c.in-Ok.block) c.returned.result c.returned.ensures h (c.back.ensures.did ts h.holds m)));
}

pub returns-in-Err : goal.returns-in-Err
returns-in-Err c = λ b. record {
  ready = c.requires.ready;
  room = same_room c.args.self.now;
  comes = λ ts w h made. reference_breaks ts c.args.self.now w b (map arg_of c.args.args.now) (shown_vars c.args.vars) c.in-Err.rule h c.one_reference.result _ c.in-Err.is (c.one_reference.ensures ts made);
}
