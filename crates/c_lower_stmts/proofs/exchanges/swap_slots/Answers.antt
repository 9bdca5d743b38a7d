use Rattle.std.proofs.Common.{List, drop, map}
use Rattle.c_lower.specs.Slots.{cells_at, vars_at}
use Rattle.c_lower.specs.Statements.{swap_slots}
use Rattle.c_lower_exprs.specs.Tables.{numbers_of, slot_view, sort_of}
use Rattle.c_lower_exprs.specs.declared.frame.Slot.{Slot}
use Rattle.c_lower_calls.proofs.Ends.{ended}
use Rattle.c_lower_stmts.proofs.Ends.{no_swaps}
use Rattle.c_lower_stmts.proofs.exchanges.swap_slots.Goals as goal

pub returns-in-None : goal.returns-in-None
returns-in-None c =
    let sorts = map sort_of (drop c.loop-sort.sort-index c.args.sorts.now) in
    ended (λ (slots : List Slot). swap_slots c.args.block (vars_at (numbers_of c.loop-sort.temps) sorts) (cells_at c.args.block.number (numbers_of c.loop-sort.cells) sorts) (map slot_view slots))
    c.loop-sort.rest.now _ _ c.in-None.ensures.cases (no_swaps c.args.block _ _) c.loop-sort.invariant
