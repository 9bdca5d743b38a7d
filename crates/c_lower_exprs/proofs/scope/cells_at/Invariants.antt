use Rattle.std.proofs.Common.{◌≡◌, ◌++◌, drop, map}
use Rattle.c_lower.specs.Slots.{cells_at}
use Rattle.c_lower_exprs.specs.Tables.{numbers_of, sort_of}
use Rattle.c_lower_exprs.proofs.scope.cells_at.Given as goal

abbrev pub invariant-loop-sort : goal.invariant-loop-sort
invariant-loop-sort l =
    l.made ++ cells_at l.base (numbers_of l.next) (map sort_of (drop l.sort-index l.sorts)) ≡ cells_at l.base (numbers_of l.fn.start) (map sort_of l.sorts)
