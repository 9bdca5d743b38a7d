use Rattle.std.proofs.Common.{◌≡◌, ◌++◌, drop, map}
use Rattle.c_lower_exprs.specs.Tables.{slot_view}
use Rattle.c_lower_program.specs.Code.Heads.{vars_in}
use Rattle.c_lower_program.proofs.code.heads.all_vars.Given as goal

abbrev pub invariant-loop-slots : goal.invariant-loop-slots
invariant-loop-slots l = l.vars ++ vars_in (map (map slot_view) (drop l.slots-index l.table)) ≡ vars_in (map (map slot_view) l.table)
