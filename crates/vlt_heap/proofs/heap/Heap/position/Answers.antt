use Rattle.vlt_heap.proofs.Calls.{cell_within}
use Rattle.vlt_heap.proofs.heap.Heap.position.Goals as goal

pub returns-clause-within : goal.returns-clause-within
returns-clause-within c = cell_within c.args.self.now c.args.o.0 c.args.i c.requires.sound c.requires.live c.requires.within
