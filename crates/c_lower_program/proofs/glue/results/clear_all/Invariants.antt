use Rattle.std.proofs.Common.{◌≡◌, ◌++◌, drop, map}
use Rattle.c_syntax.specs.View.{stmt_of}
use Rattle.c_lower.specs.Glue.{clear}
use Rattle.c_lower_program.proofs.glue.results.clear_all.Given as goal

abbrev pub invariant-loop-slot : goal.invariant-loop-slot
invariant-loop-slot l =
    map stmt_of l.out ++ map clear (drop l.slot-index l.slots) ≡ map stmt_of l.initial.out ++ map clear l.slots
