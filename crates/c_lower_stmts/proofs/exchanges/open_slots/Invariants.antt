use Rattle.std.proofs.Common.{◌≡◌, ◌++◌, drop, map}
use Rattle.c_syntax.specs.View.{stmt_of}
use Rattle.c_lower.specs.Statements.{open_slots}
use Rattle.c_lower_exprs.specs.Tables.{slot_view}
use Rattle.c_lower_stmts.proofs.exchanges.open_slots.Given as goal

abbrev pub invariant-loop-cell : goal.invariant-loop-cell
invariant-loop-cell l =
    map stmt_of l.out ++ open_slots (drop l.cell-index l.cells) (map slot_view l.rest) ≡ map stmt_of l.initial.out ++ open_slots l.cells (map slot_view l.fn.slots)
