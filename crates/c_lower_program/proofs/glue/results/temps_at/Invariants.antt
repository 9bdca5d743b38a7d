use Rattle.std.proofs.Common.{◌≡◌, ◌++◌, drop, map}
use Rattle.c_lower.specs.Slots.{past_all, vars_at}
use Rattle.c_lower_exprs.specs.Tables.{numbers_of, sort_of}
use Rattle.c_lower_program.proofs.glue.results.temps_at.Given as goal

abbrev pub invariant-loop-sort : goal.invariant-loop-sort
invariant-loop-sort l = record {
  vars : l.vars ++ vars_at (numbers_of l.next) (map sort_of (drop l.sort-index l.sorts)) ≡ vars_at (numbers_of l.fn.start) (map sort_of l.sorts);
  next : past_all (numbers_of l.next) (map sort_of (drop l.sort-index l.sorts)) ≡ past_all (numbers_of l.fn.start) (map sort_of l.sorts);
}
