use Rattle.std.proofs.Common.{Some}
use Rattle.vlt_heap.specs.Shown.{thing_of, things_of}
use Rattle.vlt_heap.proofs.Listed.{thing_at}
use Rattle.vlt_heap.proofs.Calls.{parent_there}
use Rattle.vlt_heap.proofs.heap.Heap.parent.Goals as goal

pub returns : goal.returns
returns c = λ items n x holds at place.
    parent_there c.args.self.now items n c.in-Some.place x c.requires.sound.settled holds at _
    (c.in-Some.ensures.things (things_of items) n (thing_of x) holds.things (thing_at items n (Some x) at) place)
