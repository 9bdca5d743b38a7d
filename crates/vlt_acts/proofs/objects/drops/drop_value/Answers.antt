use Rattle.std.proofs.Common.{ap, ◌∙◌, ◌*◌, take, drop}
use Rattle.vlt_acts.proofs.OfObjects.Dropping.{can_drop, drop_does}
use Rattle.vlt_acts.proofs.objects.drops.drop_value.Goals as goal

pub drop_all-requires-clause-can : goal.drop_all-requires-clause-can
drop_all-requires-clause-can k =
    can_drop k.args.heap.now k.args.values.now k.args.v.0 k.values_from.result.now (k.values_from.ensures ∙ ap (λ n. take (1 * k.args.values.now.width) (drop n k.args.values.now.slots.items)) k.place-from.ensures.is) k.requires.right

pub returns-clause-does : goal.returns-clause-does
returns-clause-does k = λ c w n d same.
    drop_does k.args.heap.now k.drop_all.new.heap k.args.values.now c w n d k.args.v.0 k.values_from.result.now
    (k.values_from.ensures ∙ ap (λ n. take (1 * k.args.values.now.width) (drop n k.args.values.now.slots.items)) k.place-from.ensures.is) same k.drop_all.ensures.does
