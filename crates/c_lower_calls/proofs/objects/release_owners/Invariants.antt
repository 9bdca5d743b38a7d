use Rattle.std.proofs.Common.{◌≡◌, ◌++◌, drop, map}
use Rattle.c_syntax.specs.View.{stmt_of}
use Rattle.c_lower.specs.Statements.{owner_slots}
use Rattle.c_lower_exprs.specs.Tables.{slot_view}
use Rattle.c_lower_calls.specs.Written.{released}
use Rattle.c_lower_calls.proofs.objects.release_owners.Given as goal

abbrev pub invariant-loop-slot : goal.invariant-loop-slot
invariant-loop-slot l =
    map stmt_of l.out ++ released (owner_slots (map slot_view (drop l.slot-index l.slots)))
    ≡ map stmt_of l.initial.out ++ released (owner_slots (map slot_view l.slots))
