use Rattle.vlt_acts.proofs.OfObjects.Taking.{one_frees, takes_one}
use Rattle.vlt_acts.proofs.objects.opening.take_cell.Goals as goal

pub free_all-requires-clause-can : goal.free_all-requires-clause-can
free_all-requires-clause-can k =
    one_frees k.args.heap.now k.args.values.now k.copy_cell.new.self k.args.o k.args.number k.args.i k.args.v.0 k.place-to.result k.place-to.ensures.is k.requires.within k.copy_cell.ensures.kept k.copy_cell.ensures.filled
    k.values_from-row.result.now k.values_from-row.ensures k.requires.can

pub returns-clause-takes : goal.returns-clause-takes
returns-clause-takes k =
    takes_one k.args.heap.now k.args.values.now k.copy_cell.new.self k.args.o k.args.number k.args.i k.args.v.0 k.place-to.result k.place-to.ensures.is k.requires.within k.copy_cell.ensures.kept k.copy_cell.ensures.filled
    k.free_all.new.heap k.values_from-row.result.now k.values_from-row.ensures k.free_all.ensures.does
