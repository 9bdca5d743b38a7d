use Rattle.std.proofs.Common.{◌≡◌, drop, map}
use Rattle.c_lower.specs.Slots.{past_all}
use Rattle.c_lower_exprs.specs.Tables.{numbers_of, sort_of}
use Rattle.c_lower_exprs.proofs.fields.past_all.Given as goal

-- past what was passed and then what is left is past the whole
abbrev pub invariant-loop-sort : goal.invariant-loop-sort
invariant-loop-sort l =
    past_all (numbers_of l.next) (map sort_of (drop l.sort-index l.sorts)) ≡ past_all (numbers_of l.fn.start) (map sort_of l.sorts)
