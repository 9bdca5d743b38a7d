use Rattle.std.proofs.Common.{refl, Some}
use Rattle.vlt_heap.specs.Shown.{thing_of, things_of}
use Rattle.vlt_heap.proofs.Listed.{thing_at}
use Rattle.vlt_heap.proofs.Calls.{parent_set}
use Rattle.vlt_heap.proofs.heap.Heap.disown.Goals as goal

pub returns-clause-items : goal.returns-clause-items
returns-clause-items c = λ items n x holds at place.
    parent_set c.args.self.now _ items n x _ (record { kinds = refl; cells = refl; width = refl }) holds at
    (c.disown.ensures.things (things_of items) n (thing_of x) holds.things (thing_at items n (Some x) at) place)
