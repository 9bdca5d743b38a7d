use Rattle.std.proofs.Common.{◌∙◌, ◌*◌, ap, arith, length}
use Rattle.vlt_acts.proofs.OfValues.Fronts.{number_object, owned_object}
use Rattle.vlt_acts.proofs.OfObjects.Storing.{length_row, cell_set, nothing_set}
use Rattle.vlt_acts.proofs.objects.cells.set_cell.Goals as goal

pub returns-in-Object-clause-sets : goal.returns-in-Object-clause-sets
returns-in-Object-clause-sets k =
    cell_set k.args.heap.now k.store_all.new.heap k.args.values.now k.args.x.0 k.args.i k.args.from k.front.result k.in-Object.o k.in-Object.number k.cell.result k.values_from.result.now k.requires.wide k.requires.within k.front.ensures k.in-Object.is
    k.values_from.ensures k.cell.ensures.is k.store_all.ensures.items

pub returns-in-Number-clause-sets : goal.returns-in-Number-clause-sets
returns-in-Number-clause-sets k = nothing_set k.args.heap.now k.args.values.now k.args.x.0 k.args.i k.args.from k.front.result k.front.ensures (number_object k.front.result _ k.in-Number.is)

pub returns-in-Owned-clause-sets : goal.returns-in-Owned-clause-sets
returns-in-Owned-clause-sets k = nothing_set k.args.heap.now k.args.values.now k.args.x.0 k.args.i k.args.from k.front.result k.front.ensures (owned_object k.front.result _ _ k.in-Owned.is)

pub store_all-requires-clause-short : goal.store_all-requires-clause-short
store_all-requires-clause-short k =
    let l = ap length k.values_from.ensures ∙ length_row k.args.values.now.slots.items k.args.from (1 * k.args.values.now.width) (omega (arith, k.requires.within)) in
    omega (arith, l, k.cell.ensures.short)
