use Rattle.std.proofs.Common.{refl, ap, subst, ◌∙◌, ◌<◌, length, slice_set}
use Rattle.vlt_heap.proofs.Calls.{slot_set}
use Rattle.vlt_heap.proofs.heap.Heap.write.Goals as goal

pub returns-clause-items : goal.returns-clause-items
returns-clause-items c = λ items n x holds at place.
    slot_set c.args.self.now _ items n c.args.o.0 c.args.i x c.args.slot holds at place c.requires.within (record {
      places = refl;
      kinds = refl;
      cells = c.put.ensures.items ∙ ap (λ k. slice_set c.args.self.now.cells.items k c.args.slot) c.position-k.ensures.is;
      width = refl;
      within = subst (λ k. k < length c.args.self.now.cells.items) c.position-k.ensures.is c.position-k.ensures.within;
    })
