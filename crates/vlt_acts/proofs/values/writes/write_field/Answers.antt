use Rattle.vlt_acts.proofs.OfValues.Fronts.{number_object, owned_object}
use Rattle.vlt_acts.proofs.OfValues.Writing.{cell_copied, nowhere_copied}
use Rattle.std.proofs.Common.{refl}
use Rattle.vlt_acts.proofs.values.writes.write_field.Goals as goal

pub returns-in-Object-clause-value : goal.returns-in-Object-clause-value
returns-in-Object-clause-value c = λ s.
    cell_copied c.args.heap.now c.args.values.now c.copy_cell.new.self s c.args.x.0 c.args.i c.args.to c.front.result c.in-Object.object c.in-Object.number c.front.ensures c.in-Object.is c.copy_cell.ensures.kept.width c.copy_cell.ensures.filled

pub returns-in-Number-clause-value : goal.returns-in-Number-clause-value
returns-in-Number-clause-value c = λ s. nowhere_copied c.args.heap.now c.args.values.now c.args.values.now s c.args.x.0 c.args.i c.args.to c.front.result c.front.ensures (number_object c.front.result _ c.in-Number.is) refl

pub returns-in-Owned-clause-value : goal.returns-in-Owned-clause-value
returns-in-Owned-clause-value c = λ s. nowhere_copied c.args.heap.now c.args.values.now c.args.values.now s c.args.x.0 c.args.i c.args.to c.front.result c.front.ensures (owned_object c.front.result _ _ c.in-Owned.is) refl
