use Rattle.std.proofs.Common.{Some}
use Rattle.vlt_heap.specs.Shown.{thing_of, things_of}
use Rattle.vlt_heap.proofs.Listed.{thing_at}
use Rattle.vlt_heap.proofs.Calls.{there_or_gone}
use Rattle.vlt_heap.proofs.heap.Heap.is_held.Goals as goal

pub returns-clause-number : goal.returns-clause-number
returns-clause-number c = λ yes items n x holds at place. c.is_held.ensures.number yes (things_of items) n (thing_of x) holds.things (thing_at items n (Some x) at) place

pub returns-clause-items : goal.returns-clause-items
returns-clause-items c = λ items holds made. there_or_gone c.args.self.now items c.args.o.0 c.args.number c.is_held.result c.is_held.ensures.things holds made
