use Rattle.std.proofs.Common.{refl, arith}
use Rattle.vlt_interp.proofs.OfStatements.Entering.{block_entered}
use Rattle.vlt_interp.proofs.statements.blocks.enter_block.Goals as goal

pub returns : goal.returns
returns c = λ s b. record {
  keeps = record {
    sound = c.requires.sound;
    size = record { heap = refl; slots = refl };
    width = refl;
    values = omega arith;
    tasks = omega (arith, c.put.ensures.room, c.put-2.ensures.room);
    line = omega arith;
  };
  comes = λ f ts frame w q. block_entered c.args.block.now c.args.run.now (record c.args.run.now { tasks = c.put.new.items }) (record c.args.run.now { tasks = c.put-2.new.items }) refl refl
      c.as_slice.result c.as_slice.ensures c.put.ensures.items c.put-2.ensures.items f ts frame w b q;
}
