use Rattle.std.proofs.Common.{◌≡◌, ◌++◌, drop, map}
use Rattle.c_lower_exprs.specs.Tables.{slot_view}
use Rattle.c_lower_program.proofs.code.heads.push_vars.Given as goal

abbrev pub invariant-loop-slot : goal.invariant-loop-slot
invariant-loop-slot l =
    l.vars ++ map (λ x. x.var) (map slot_view (drop l.slot-index l.slots)) ≡ l.initial.vars ++ map (λ x. x.var) (map slot_view l.slots)
