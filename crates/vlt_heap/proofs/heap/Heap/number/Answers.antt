use Rattle.std.proofs.Common.{Some}
use Rattle.vlt_heap.specs.Shown.{thing_of, things_of}
use Rattle.vlt_heap.proofs.Listed.{thing_at}
use Rattle.vlt_heap.proofs.heap.Heap.number.Goals as goal

pub returns : goal.returns
returns c = λ items n x holds at place. c.number.ensures (things_of items) n (thing_of x) holds.things (thing_at items n (Some x) at) place
