use Rattle.std.proofs.Common.{map}
use Rattle.c_syntax.specs.View.{arg_of}
use Rattle.c_values.specs.Shown.{shown_vars}
use Rattle.c_memory.specs.Shown.{number_of}
use Rattle.c_meaning.specs.Blocks.{blocks_after_own}
use Rattle.c_primitives.proofs.Coming.{ready_blocks, room_blocks, same_room, references_come, references_break, blocks_come}
use Rattle.c_primitives.proofs.world.World.own.Goals as goal

pub returns-in-Ok : goal.returns-in-Ok
returns-in-Ok c = λ b. record {
  ready = ready_blocks c.args.self.now c.own.new.self c.requires.ready c.own.ensures.sound c.own.ensures.heap c.own.ensures.cells;
  room = room_blocks c.args.self.now c.own.new.self c.own.ensures.cells;
  comes = λ ts w h made. references_come ts _ w b b (map arg_of c.args.args.now) (shown_vars c.args.vars) c.done.result c.two_references.result c.in-Ok.child c.in-Ok.parent _ c.in-Ok.is (c.two_references.ensures ts made)
      (λ m n. blocks_come ts c.args.self.now w b c.own.new.self h c.done.result c.own.result (λ bs. blocks_after_own bs (number_of c.in-Ok.child) (number_of c.in-Ok.parent)) c.done.ensures (c.own.ensures.did ts h.holds m n));
}

pub returns-in-Err : goal.returns-in-Err
returns-in-Err c = λ b. record {
  ready = c.requires.ready;
  room = same_room c.args.self.now;
  comes = λ ts w h made. references_break ts c.args.self.now w b (map arg_of c.args.args.now) (shown_vars c.args.vars) c.in-Err.rule h c.two_references.result _ c.in-Err.is (c.two_references.ensures ts made);
}
