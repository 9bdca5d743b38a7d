use Rattle.std.proofs.Common.{List, drop, map}
use Rattle.c_lower.specs.Statements.{open_slots}
use Rattle.c_lower_exprs.specs.Tables.{slot_view}
use Rattle.c_lower_exprs.specs.declared.frame.Slot.{Slot}
use Rattle.c_lower_calls.proofs.Ends.{ended}
use Rattle.c_lower_stmts.proofs.Ends.{none_opened}
use Rattle.c_lower_stmts.proofs.exchanges.open_slots.Goals as goal

pub returns-in-None : goal.returns-in-None
returns-in-None c =
    ended (λ (slots : List Slot). open_slots (drop c.loop-cell.cell-index c.args.cells.now) (map slot_view slots)) c.loop-cell.rest.now _ _ c.in-None.ensures.cases (none_opened _) c.loop-cell.invariant
