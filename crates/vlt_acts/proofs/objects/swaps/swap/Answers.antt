use Rattle.vlt_acts.proofs.OfValues.Fronts.{number_object, owned_object}
use Rattle.vlt_acts.proofs.OfObjects.Swapping.{swap_frees, swap_hangs, swap_does, swap_nowhere}
use Rattle.vlt_acts.proofs.objects.swaps.swap.Goals as goal

pub free_all-requires-clause-can : goal.free_all-requires-clause-can
free_all-requires-clause-can k =
    swap_frees k.args.heap.now k.args.values.now k.grow.new.self k.copy_cell.new.self k.args.x.0 k.args.i k.args.v.0 k.len-end.result k.place-place.result k.front.result k.in-Object.o k.in-Object.number k.front.ensures k.in-Object.is k.len-end.ensures k.grow.ensures.grown k.copy_cell.ensures.kept k.copy_cell.ensures.filled k.requires.within k.requires.table k.place-place.ensures.is
    k.values_from-before.result.now k.values_from-before.ensures k.requires.right

pub hang_all-requires-clause-can : goal.hang_all-requires-clause-can
hang_all-requires-clause-can k =
    swap_hangs k.args.heap.now k.args.values.now k.grow.new.self k.copy_cell.new.self k.args.x.0 k.args.i k.args.v.0 k.len-end.result k.place-place.result k.front.result k.in-Object.o k.in-Object.number k.front.ensures k.in-Object.is k.len-end.ensures k.grow.ensures.grown k.copy_cell.ensures.kept k.copy_cell.ensures.filled k.requires.within k.requires.table k.place-place.ensures.is
    k.free_all.new.heap k.values_from-before.result.now k.values_from-before.ensures k.free_all.ensures.does k.values_from-after.result.now k.values_from-after.ensures k.requires.right

pub unreachable-requires : goal.unreachable-requires
unreachable-requires k =
    swap_nowhere k.args.heap.now k.args.values.now k.grow.new.self k.args.x.0 k.args.i k.args.v.0 k.front.result k.grow.ensures.grown k.front.ensures (number_object k.front.result _ k.in-Number.is) k.requires.right

pub unreachable-requires-in-Owned : goal.unreachable-requires-in-Owned
unreachable-requires-in-Owned k =
    swap_nowhere k.args.heap.now k.args.values.now k.grow.new.self k.args.x.0 k.args.i k.args.v.0 k.front.result k.grow.ensures.grown k.front.ensures (owned_object k.front.result _ _ k.in-Owned.is) k.requires.right

pub returns-clause-does : goal.returns-clause-does
returns-clause-does k = λ c w b d same.
    swap_does k.args.heap.now k.args.values.now k.grow.new.self k.copy_cell.new.self k.args.x.0 k.args.i k.args.v.0 k.len-end.result k.place-place.result k.front.result k.in-Object.o k.in-Object.number k.front.ensures k.in-Object.is k.len-end.ensures k.grow.ensures.grown k.copy_cell.ensures.kept k.copy_cell.ensures.filled k.requires.within k.requires.table k.place-place.ensures.is
    k.free_all.new.heap k.values_from-before.result.now k.values_from-before.ensures k.free_all.ensures.does k.values_from-after.result.now k.values_from-after.ensures
    k.hang_all.new.heap k.set_cell.new.heap k.copy.new.self k.truncate.new.self k.hang_all.ensures.does k.set_cell.ensures.sets k.copy.ensures.kept k.copy.ensures.filled k.truncate.ensures.cut c w b d same
