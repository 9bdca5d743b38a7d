use Rattle.std.proofs.Common.{◌≡◌, drop, map}
use Rattle.c_lower_exprs.specs.Tables.{numbers_of, slot_view}
use Rattle.c_lower_program.specs.Code.Heads.{past_slots}
use Rattle.c_lower_program.proofs.code.heads.past_slots.Given as goal

abbrev pub invariant-loop-slot : goal.invariant-loop-slot
invariant-loop-slot l =
    past_slots (numbers_of l.next) (map slot_view (drop l.slot-index l.slots)) ≡ past_slots (numbers_of l.fn.start) (map slot_view l.slots)
