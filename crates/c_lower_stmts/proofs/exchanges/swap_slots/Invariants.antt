use Rattle.std.proofs.Common.{◌≡◌, ◌++◌, drop, map}
use Rattle.c_syntax.specs.View.{stmt_of}
use Rattle.c_lower.specs.Slots.{cells_at, vars_at}
use Rattle.c_lower.specs.Statements.{swap_slots}
use Rattle.c_lower_exprs.specs.Tables.{numbers_of, slot_view, sort_of}
use Rattle.c_lower_stmts.proofs.exchanges.swap_slots.Given as goal

abbrev pub invariant-loop-sort : goal.invariant-loop-sort
invariant-loop-sort l =
    map stmt_of l.out
    ++ swap_slots l.block (vars_at (numbers_of l.temps) (map sort_of (drop l.sort-index l.sorts)))
    (cells_at l.block.number (numbers_of l.cells) (map sort_of (drop l.sort-index l.sorts))) (map slot_view l.rest)
    ≡ map stmt_of l.initial.out
    ++ swap_slots l.block (vars_at (numbers_of l.fn.t) (map sort_of l.sorts)) (cells_at l.block.number (numbers_of l.fn.start) (map sort_of l.sorts)) (map slot_view l.fn.slots)
