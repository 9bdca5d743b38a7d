use Rattle.std.proofs.Common.{◌≡◌, ◌++◌, drop, map}
use Rattle.c_lower.specs.Slots.{vars_at}
use Rattle.c_lower.specs.Expressions as s
use Rattle.c_lower_exprs.specs.Tables.{numbers_of, sort_of}
use Rattle.c_lower_exprs.specs.Coded.{atom_of}
use Rattle.c_lower_exprs.proofs.reads.temps_at.Given as goal

abbrev pub invariant-loop-sort : goal.invariant-loop-sort
invariant-loop-sort l =
    map atom_of l.atoms ++ map s.variable (vars_at (numbers_of l.next) (map sort_of (drop l.sort-index l.sorts)))
    ≡ map s.variable (vars_at (numbers_of l.fn.t) (map sort_of l.sorts))
