use Rattle.std.proofs.Common.{map}
use Rattle.c_syntax.specs.View.{arg_of}
use Rattle.c_values.specs.Shown.{shown_vars}
use Rattle.c_memory.specs.Shown.{number_of}
use Rattle.c_meaning.specs.Blocks.{blocks_after_release}
use Rattle.c_primitives.proofs.Coming.{ready_blocks, room_blocks, same_room, reference_come, reference_breaks, blocks_come}
use Rattle.c_primitives.proofs.world.World.release.Goals as goal

pub returns-in-Ok : goal.returns-in-Ok
returns-in-Ok c = λ b. record {
  ready = ready_blocks c.args.self.now c.release.new.self c.requires.ready c.release.ensures.sound c.release.ensures.heap c.release.ensures.cells;
  room = room_blocks c.args.self.now c.release.new.self c.release.ensures.cells;
  comes = λ ts w h made. reference_come ts _ w b b (map arg_of c.args.args.now) (shown_vars c.args.vars) c.done.result c.one_reference.result c.in-Ok.block _ c.in-Ok.is (c.one_reference.ensures ts made)
      (λ m. blocks_come ts c.args.self.now w b c.release.new.self h c.done.result c.release.result (λ bs. blocks_after_release bs (number_of c.in-Ok.block)) c.done.ensures (c.release.ensures.did ts h.holds m));
}

pub returns-in-Err : goal.returns-in-Err
returns-in-Err c = λ b. record {
  ready = c.requires.ready;
  room = same_room c.args.self.now;
  comes = λ ts w h made. reference_breaks ts c.args.self.now w b (map arg_of c.args.args.now) (shown_vars c.args.vars) c.in-Err.rule h c.one_reference.result _ c.in-Err.is (c.one_reference.ensures ts made);
}
