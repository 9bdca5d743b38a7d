use Rattle.std.proofs.Common.{subst, ◌≡◌, OnErr}
use Rattle.vlt_heap.specs.Shown.{Makes}
use Rattle.vlt_acts.proofs.OfObjects.NewCells.{hang_new, new_made, full_made}
use Rattle.vlt_acts.proofs.objects.making.make_object.Goals as goal

pub hang_all-requires-clause-can : goal.hang_all-requires-clause-can
hang_all-requires-clause-can k =
    hang_new k.args.heap.now k.new_object.new.self k.args.values.now k.args.from k.args.count k.args.t.0 k.in-Ok.o (subst (λ r. Makes r k.args.t.0 k.args.heap.now k.new_object.new.self) k.in-Ok.is k.new_object.ensures.items) k.requires.within k.requires.fits k.new_object.ensures.size.slots
    k.values_from-row.result.now k.values_from-row.ensures k.store_all.new.heap k.number-number.result k.number-number.ensures k.store_all.ensures.items k.requires.can

pub returns-in-Ok-clause-makes : goal.returns-in-Ok-clause-makes
returns-in-Ok-clause-makes k = λ s frame q counted typed.
    new_made k.args.heap.now k.new_object.new.self k.args.values.now k.args.from k.args.count k.args.t.0 k.in-Ok.o (subst (λ r. Makes r k.args.t.0 k.args.heap.now k.new_object.new.self) k.in-Ok.is k.new_object.ensures.items) k.requires.within k.requires.fits k.new_object.ensures.size.slots
    k.values_from-row.result.now k.values_from-row.ensures k.store_all.new.heap k.number-number.result k.number-number.ensures k.store_all.ensures.items k.hang_all.new.heap k.hang_all.ensures.does s frame q counted typed

pub returns-in-Err-clause-makes : goal.returns-in-Err-clause-makes
returns-in-Err-clause-makes k = λ s frame q counted typed. (
  full_made k.args.heap.now k.new_object.new.self k.args.values.now k.args.from k.args.t.0 k.in-Err.e (subst (λ r. Makes r k.args.t.0 k.args.heap.now k.new_object.new.self) k.in-Err.is k.new_object.ensures.items) s,
  subst (λ r. OnErr r (k.new_object.new.self ≡ k.args.heap.now)) k.in-Err.is k.new_object.ensures.same,
)
