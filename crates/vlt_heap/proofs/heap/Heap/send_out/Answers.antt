use Rattle.std.proofs.Common.{refl}
use Rattle.vlt_heap.proofs.Calls.{kind_set}
use Rattle.vlt_heap.proofs.heap.Heap.send_out.Goals as goal

pub returns-clause-items : goal.returns-clause-items
returns-clause-items c = λ items n x holds at place.
    let k = c.kind-kind.ensures.items items n x holds at place in
    kind_set c.args.self.now _ items n c.args.o.0 x _ _ c.requires.sound holds at place c.set_kind.ensures.set (record { type = k.type; state = k.state; is_out = refl }) refl refl
