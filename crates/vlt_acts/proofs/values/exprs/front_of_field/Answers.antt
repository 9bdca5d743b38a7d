use Rattle.std.proofs.Common.{subst, Some, None}
use Rattle.vlt_heap.specs.Shown.{Finds}
use Rattle.vlt_acts.proofs.OfValues.Fronts.{field_found, field_none, field_nowhere, number_object, owned_object}
use Rattle.vlt_acts.proofs.values.exprs.front_of_field.Goals as goal

pub returns-in-Some : goal.returns-in-Some
returns-in-Some c = λ s.
    field_found c.args.heap.now c.args.values.now s c.args.x.0 c.front.result c.front.ensures c.args.i c.in-Object.object c.in-Object.number c.in-Some.a c.in-Object.is
    (subst (λ k. Finds (Some c.in-Some.a) c.in-Object.object c.in-Object.number k c.args.heap.now) c.cell.ensures.is
    (subst (λ r. Finds r c.in-Object.object c.in-Object.number c.cell.result c.args.heap.now) c.in-Some.is c.find.ensures))

pub returns-in-None : goal.returns-in-None
returns-in-None c = λ s.
    field_none c.args.heap.now c.args.values.now s c.args.x.0 c.front.result c.front.ensures c.args.i c.in-Object.object c.in-Object.number _ c.in-Object.is
    (subst (λ k. Finds None c.in-Object.object c.in-Object.number k c.args.heap.now) c.cell.ensures.is
    (subst (λ r. Finds r c.in-Object.object c.in-Object.number c.cell.result c.args.heap.now) c.in-None.is c.find.ensures))

pub returns-in-Number : goal.returns-in-Number
returns-in-Number c = λ s. field_nowhere c.args.heap.now c.args.values.now s c.args.x.0 c.front.result c.front.ensures c.args.i _ (number_object c.front.result _ c.in-Number.is)

pub returns-in-Owned : goal.returns-in-Owned
returns-in-Owned c = λ s. field_nowhere c.args.heap.now c.args.values.now s c.args.x.0 c.front.result c.front.ensures c.args.i _ (owned_object c.front.result _ _ c.in-Owned.is)
