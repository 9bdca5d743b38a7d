use Rattle.std.proofs.Common.{List, drop, map}
use Rattle.c_lower.specs.Slots.{Slot}
use Rattle.c_lower.specs.Expressions.{copies}
use Rattle.c_lower_exprs.specs.Tables.{slot_view}
use Rattle.c_lower_exprs.specs.declared.atom.Atom.{Atom}
use Rattle.c_lower_exprs.specs.Coded.{atom_of}
use Rattle.c_lower_calls.proofs.Ends.{ended, no_copies}
use Rattle.c_lower_calls.proofs.copies.copy_into.Goals as goal

pub returns-in-None : goal.returns-in-None
returns-in-None c =
    ended (λ (atoms : List Atom). copies (map (λ (x : Slot). x.var) (map slot_view (drop c.loop-slot.slot-index c.args.slots.now))) (map atom_of atoms)) c.loop-slot.rest.now _ _ c.in-None.ensures.cases (no_copies _) c.loop-slot.invariant
