use Rattle.std.proofs.Common.{◌≡◌, ◌++◌, map, replicate}
use Rattle.c_lower_exprs.specs.Tables.{sort_of}
use Rattle.c_lower_exprs.proofs.sorts.repeat.Given as goal

abbrev pub invariant-loop-i : goal.invariant-loop-i
invariant-loop-i l = map sort_of l.out ≡ map sort_of l.initial.out ++ replicate l.i (sort_of l.sort)
