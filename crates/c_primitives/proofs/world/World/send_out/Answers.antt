use Rattle.std.proofs.Common.{Err, map, sym, ◌∙◌}
use Rattle.c_syntax.specs.View.{arg_of}
use Rattle.c_values.specs.Shown.{shown_vars}
use Rattle.c_memory.specs.Shown.{number_of}
use Rattle.c_meaning.specs.Blocks.{gone_out}
use Rattle.c_primitives.specs.declared.halt.Halt.TheVariants.{Broken}
use Rattle.c_primitives.proofs.Coming.{ready_blocks, room_blocks, same_room, reference_come, reference_breaks, while_come, while_breaks, blocks_come}
use Rattle.c_primitives.proofs.world.World.send_out.Goals as goal

pub returns-then-not-is_reading : goal.returns-then-not-is_reading
returns-then-not-is_reading c = λ b. record {
  ready = c.requires.ready;
  room = same_room c.args.self.now;
  comes = λ ts w h made. reference_come ts c.args.self.now w b b (map arg_of c.args.args.now) (shown_vars c.args.vars) (Err (Broken 8)) c.one_reference.result c.in-Ok.block _ c.in-Ok.is (c.one_reference.ensures ts made)
      (λ m. while_breaks ts c.args.self.now w b _ h (sym c.is_reading.ensures ∙ c.if-not-is_reading.true));
}

pub returns-else-not-is_reading : goal.returns-else-not-is_reading
returns-else-not-is_reading c = λ b. record {
  ready = ready_blocks c.args.self.now c.out.new.self c.requires.ready c.out.ensures.sound c.out.ensures.heap c.out.ensures.cells;
  room = room_blocks c.args.self.now c.out.new.self c.out.ensures.cells;
  comes = λ ts w h made. reference_come ts _ w b b (map arg_of c.args.args.now) (shown_vars c.args.vars) c.done.result c.one_reference.result c.in-Ok.block _ c.in-Ok.is (c.one_reference.ensures ts made)
      (λ m. while_come ts _ w b c.args.self.now c.done.result _ h (sym c.is_reading.ensures ∙ c.if-not-is_reading.false) (blocks_come ts c.args.self.now w b c.out.new.self h c.done.result c.out.result (λ bs. gone_out bs (number_of c.in-Ok.block)) c.done.ensures (c.out.ensures.did ts h.holds m)));
}

pub returns-in-Err : goal.returns-in-Err
returns-in-Err c = λ b. record {
  ready = c.requires.ready;
  room = same_room c.args.self.now;
  comes = λ ts w h made. reference_breaks ts c.args.self.now w b (map arg_of c.args.args.now) (shown_vars c.args.vars) c.in-Err.rule h c.one_reference.result _ c.in-Err.is (c.one_reference.ensures ts made);
}
