use Rattle.std.proofs.Common.{◌≡◌, drop, map}
use Rattle.c_lower.specs.Slots.{first_numbers}
use Rattle.c_lower_exprs.specs.Tables.{numbers_of, slot_view}
use Rattle.c_lower_program.specs.Code.Heads.{past_lists}
use Rattle.c_lower_program.proofs.code.heads.past_table.Given as goal

abbrev pub invariant-loop-slots : goal.invariant-loop-slots
invariant-loop-slots l =
    past_lists (numbers_of l.next) (map (map slot_view) (drop l.slots-index l.table)) ≡ past_lists first_numbers (map (map slot_view) l.table)
