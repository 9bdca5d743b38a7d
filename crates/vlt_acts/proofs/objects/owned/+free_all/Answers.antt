use Rattle.std.proofs.Common.{rules, refl, sym, subst}
use Rattle.vlt_meaning.specs.World.{is_inside, loose}
use Rattle.vlt_acts.specs.Objects.Owned.{taken_out, CanFree, FreesAll, AreParts}
use Rattle.vlt_acts.proofs.OfObjects.Rows.{is_empty}
use Rattle.vlt_acts.proofs.OfObjects.Chains.{idle, no_parts, moves_join, can_first, can_rest, makes_both}
use Rattle.vlt_acts.proofs.objects.owned.+free_all.Goals as goal

pub free_one-requires-clause-can : goal.free_one-requires-clause-can
free_one-requires-clause-can n k =
    let q = subst (CanFree k.args.heap.now) k.in-Some.ensures.cases.0 k.requires.can in
    record { number = q.number; can = can_first (taken_out q.number) (moves_join (is_inside q.number) loose) k.args.heap.now k.in-Some.a.now k.in-Some.rest.now q.can }

pub free_all-requires : goal.free_all-requires
free_all-requires n k =
    let q = subst (CanFree k.args.heap.now) k.in-Some.ensures.cases.0 k.requires.can in
    (search rules, (k.free_one.ensures.sound, record { number = q.number; can = can_rest (taken_out q.number) (moves_join (is_inside q.number) loose) k.args.heap.now k.free_one.new.heap k.in-Some.a.now k.in-Some.rest.now q.can (k.free_one.ensures.does q.number) }))

pub returns-in-Some-clause-does : goal.returns-in-Some-clause-does
returns-in-Some-clause-does n k = λ m.
    subst (λ l. FreesAll l k.args.heap.now k.free_all.new.heap) (sym k.in-Some.ensures.cases.0)
    (λ m. makes_both (taken_out m) (moves_join (is_inside m) loose) k.args.heap.now k.free_one.new.heap k.free_all.new.heap k.in-Some.a.now k.in-Some.rest.now (k.free_one.ensures.does m) (k.free_all.ensures.does m)) m

pub returns-in-None-clause-does : goal.returns-in-None-clause-does
returns-in-None-clause-does n k = λ m s after is. idle (taken_out m) (λ os. refl) k.args.heap.now k.args.slots.now s after (no_parts s.items s.parts (subst (λ l. AreParts s.items l s.parts) (is_empty k.args.slots.now k.in-None.ensures.cases) s.have)) is
