use Rattle.std.proofs.Common.{rules, refl, sym, subst}
use Rattle.vlt_acts.specs.Objects.Owned.{objects_after_drop, CanDrop, DropsAll, AreParts}
use Rattle.vlt_acts.proofs.OfObjects.Rows.{is_empty}
use Rattle.vlt_acts.proofs.OfObjects.Chains.{idle, no_parts, drops_join, can_first, can_rest, makes_both}
use Rattle.vlt_acts.proofs.objects.owned.+drop_all.Goals as goal

pub drop_one-requires-clause-can : goal.drop_one-requires-clause-can
drop_one-requires-clause-can n k =
    let q = subst (CanDrop k.args.heap.now) k.in-Some.ensures.cases.0 k.requires.can in
    record { program = q.program; can = can_first (objects_after_drop q.program) (drops_join q.program) k.args.heap.now k.in-Some.a.now k.in-Some.rest.now q.can }

pub drop_all-requires : goal.drop_all-requires
drop_all-requires n k =
    let q = subst (CanDrop k.args.heap.now) k.in-Some.ensures.cases.0 k.requires.can in
    (search rules, (k.drop_one.ensures.sound, record { program = q.program; can = can_rest (objects_after_drop q.program) (drops_join q.program) k.args.heap.now k.drop_one.new.heap k.in-Some.a.now k.in-Some.rest.now q.can (k.drop_one.ensures.does q.program) }))

pub returns-in-Some-clause-does : goal.returns-in-Some-clause-does
returns-in-Some-clause-does n k = λ m.
    subst (λ l. DropsAll l k.args.heap.now k.drop_all.new.heap) (sym k.in-Some.ensures.cases.0)
    (λ m. makes_both (objects_after_drop m) (drops_join m) k.args.heap.now k.drop_one.new.heap k.drop_all.new.heap k.in-Some.a.now k.in-Some.rest.now (k.drop_one.ensures.does m) (k.drop_all.ensures.does m)) m

pub returns-in-None-clause-does : goal.returns-in-None-clause-does
returns-in-None-clause-does n k = λ m s after is. idle (objects_after_drop m) (λ os. refl) k.args.heap.now k.args.slots.now s after (no_parts s.items s.parts (subst (λ l. AreParts s.items l s.parts) (is_empty k.args.slots.now k.in-None.ensures.cases) s.have)) is
