use Rattle.std.proofs.Common.{refl, Some}
use Rattle.vlt_heap.specs.Shown.{thing_of, things_of}
use Rattle.vlt_heap.proofs.Listed.{thing_at}
use Rattle.vlt_heap.proofs.Calls.{released}
use Rattle.vlt_heap.proofs.heap.Heap.release.Goals as goal

pub returns-clause-items : goal.returns-clause-items
returns-clause-items c = λ items n x holds at place.
    released c.args.self.now _ items n x (record { kinds = refl; cells = refl; width = refl }) holds at
    (c.release.ensures.things (things_of items) n (thing_of x) holds.things (thing_at items n (Some x) at) place)
