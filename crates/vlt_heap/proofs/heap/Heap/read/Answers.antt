use Rattle.vlt_heap.proofs.Calls.{slot_read}
use Rattle.vlt_heap.proofs.heap.Heap.read.Goals as goal

pub returns : goal.returns
returns c = λ items n x holds at place. slot_read c.args.self.now items n c.args.o.0 c.args.i c.position.result x _ holds at place c.requires.within c.position.ensures.is c.at.ensures
