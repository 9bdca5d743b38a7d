use Rattle.std.proofs.Common.{◌≡◌, ◌++◌, drop, map}
use Rattle.c_lower.specs.Expressions as s
use Rattle.c_lower_exprs.specs.Tables.{slot_view}
use Rattle.c_lower_exprs.specs.Coded.{atom_of}
use Rattle.c_lower_exprs.proofs.reads.slot_atoms.Given as goal

abbrev pub invariant-loop-slot : goal.invariant-loop-slot
invariant-loop-slot l =
    map atom_of l.atoms ++ map s.variable (map (λ x. x.var) (map slot_view (drop l.slot-index l.slots)))
    ≡ map s.variable (map (λ x. x.var) (map slot_view l.slots))
