use Rattle.std.proofs.Common.{◌≡◌, ◌++◌, drop, map}
use Rattle.c_lower.specs.Expressions as e
use Rattle.c_lower_exprs.specs.Coded.{atom_of}
use Rattle.c_lower_program.proofs.glue.results.atoms_of.Given as goal

abbrev pub invariant-loop-slot : goal.invariant-loop-slot
invariant-loop-slot l =
    map atom_of l.atoms ++ map e.variable (drop l.slot-index l.slots) ≡ map e.variable l.slots
