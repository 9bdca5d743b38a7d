use Rattle.std.proofs.Common.{◌≡◌, ◌++◌, drop, map}
use Rattle.c_lower.specs.Slots.{sorted_slots, vars_at}
use Rattle.c_lower_exprs.specs.Tables.{numbers_of, sort_of, slot_view}
use Rattle.c_lower_exprs.proofs.frame.slots_at.Given as goal

abbrev pub invariant-loop-sort : goal.invariant-loop-sort
invariant-loop-sort l =
    map slot_view l.made
    ++ sorted_slots (map sort_of (drop l.sort-index l.sorts)) (vars_at (numbers_of l.next) (map sort_of (drop l.sort-index l.sorts)))
    ≡ sorted_slots (map sort_of l.sorts) (vars_at (numbers_of l.fn.start) (map sort_of l.sorts))
