use Rattle.std.proofs.Common.{subst}
use Rattle.vlt_heap.specs.Shown.{Finds}
use Rattle.vlt_acts.proofs.OfValues.Copies.{found_slot, none_found}
use Rattle.vlt_acts.proofs.values.values.find.Goals as goal

pub returns-in-Some : goal.returns-in-Some
returns-in-Some c = λ a cell.
    found_slot c.args.heap.now c.args.object c.args.number c.args.k c.in-Some.a a (subst (λ r. Finds r c.args.object c.args.number c.args.k c.args.heap.now) c.in-Some.is c.find.ensures) cell

pub returns-in-None : goal.returns-in-None
returns-in-None c = λ a cell.
    none_found c.args.heap.now c.args.object c.args.number c.args.k _ a (subst (λ r. Finds r c.args.object c.args.number c.args.k c.args.heap.now) c.in-None.is c.find.ensures) cell
