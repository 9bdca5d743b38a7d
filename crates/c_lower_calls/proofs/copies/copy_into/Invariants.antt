use Rattle.std.proofs.Common.{◌≡◌, ◌++◌, drop, map}
use Rattle.c_syntax.specs.View.{stmt_of}
use Rattle.c_lower.specs.Expressions.{copies}
use Rattle.c_lower_exprs.specs.Tables.{slot_view}
use Rattle.c_lower_exprs.specs.Coded.{atom_of}
use Rattle.c_lower_calls.proofs.copies.copy_into.Given as goal

abbrev pub invariant-loop-slot : goal.invariant-loop-slot
invariant-loop-slot l =
    map stmt_of l.out ++ copies (map (λ x. x.var) (map slot_view (drop l.slot-index l.slots))) (map atom_of l.rest)
    ≡ map stmt_of l.initial.out ++ copies (map (λ x. x.var) (map slot_view l.slots)) (map atom_of l.fn.atoms)
