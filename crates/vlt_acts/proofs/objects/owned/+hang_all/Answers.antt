use Rattle.std.proofs.Common.{rules, refl, sym, subst}
use Rattle.vlt_acts.specs.Objects.Owned.{put_in, CanHang, HangsAll, AreParts}
use Rattle.vlt_acts.proofs.OfObjects.Rows.{is_empty}
use Rattle.vlt_acts.proofs.OfObjects.Chains.{idle, no_parts}
use Rattle.vlt_acts.proofs.OfObjects.Hanging.{hang_first, hang_rest, hangs_both}
use Rattle.vlt_acts.proofs.objects.owned.+hang_all.Goals as goal

pub hang_one-requires-clause-can : goal.hang_one-requires-clause-can
hang_one-requires-clause-can n k = hang_first k.args.heap.now k.in-Some.a.now k.in-Some.rest.now k.args.parent (subst (λ l. CanHang k.args.heap.now l k.args.parent) k.in-Some.ensures.cases.0 k.requires.can)

pub hang_all-requires : goal.hang_all-requires
hang_all-requires n k = (search rules, (k.hang_one.ensures.sound, hang_rest k.args.heap.now k.hang_one.new.heap k.in-Some.a.now k.in-Some.rest.now k.args.parent (subst (λ l. CanHang k.args.heap.now l k.args.parent) k.in-Some.ensures.cases.0 k.requires.can) k.hang_one.ensures.does))

pub returns-in-Some-clause-does : goal.returns-in-Some-clause-does
returns-in-Some-clause-does n k =
    subst (λ l. HangsAll l k.args.parent k.args.heap.now k.hang_all.new.heap) (sym k.in-Some.ensures.cases.0)
    (hangs_both k.args.heap.now k.hang_one.new.heap k.hang_all.new.heap k.in-Some.a.now k.in-Some.rest.now k.args.parent k.hang_one.ensures.does k.hang_all.ensures.does)

pub returns-in-None-clause-does : goal.returns-in-None-clause-does
returns-in-None-clause-does n k = λ s m after holder is. idle (put_in m) (λ os. refl) k.args.heap.now k.args.slots.now s after (no_parts s.items s.parts (subst (λ l. AreParts s.items l s.parts) (is_empty k.args.slots.now k.in-None.ensures.cases) s.have)) is
