use Rattle.vlt_heap.proofs.Calls.{kind_read}
use Rattle.vlt_heap.proofs.heap.Heap.kind.Goals as goal

pub returns-clause-items : goal.returns-clause-items
returns-clause-items c = λ items n x holds at place. kind_read c.args.self.now items n c.args.o.0 x _ holds at place c.kind_at.ensures
