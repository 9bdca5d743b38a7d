use Rattle.std.proofs.Common.{sym, subst, arith}
use Rattle.vlt_acts.specs.Objects.Cells.{StoresAll}
use Rattle.vlt_acts.proofs.OfObjects.Rows.{is_empty}
use Rattle.vlt_acts.proofs.OfObjects.Storing.{none_stored, more_stored}
use Rattle.vlt_acts.proofs.objects.cells.+store_all.Goals as goal

pub returns-in-Some-clause-items : goal.returns-in-Some-clause-items
returns-in-Some-clause-items n k =
    subst (λ l. StoresAll k.args.o k.args.number k.args.from l k.args.heap.now k.store_all.new.heap) (sym k.in-Some.ensures.cases.0)
    (more_stored k.args.heap.now k.store.new.self k.store_all.new.heap k.args.o k.args.number k.args.from _ k.in-Some.a.now k.in-Some.rest.now (omega arith) k.store.ensures.size.slots k.store.ensures.items k.store_all.ensures.items)

pub returns-in-None-clause-items : goal.returns-in-None-clause-items
returns-in-None-clause-items n k =
    subst (λ l. StoresAll k.args.o k.args.number k.args.from l k.args.heap.now k.args.heap.now) (sym (is_empty k.args.row.now k.in-None.ensures.cases)) (none_stored k.args.heap.now k.args.o k.args.number k.args.from)
