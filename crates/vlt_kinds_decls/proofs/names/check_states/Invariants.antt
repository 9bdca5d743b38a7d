use Rattle.std.proofs.Common.{◌≡◌, map, drop, take}
use Rattle.vlt_syntax.specs.View.{set_state_of}
use Rattle.vlt_kinds_types.specs.Names.Refusals.{least_from, refuse}
use Rattle.vlt_kinds_decls.specs.Names.{repeated_states, alone_after}
use Rattle.vlt_core.specs.declared.rules.TheConstants as rule
use Rattle.vlt_kinds_decls.proofs.names.check_states.Given as goal

abbrev pub invariant-loop-i : goal.invariant-loop-i
invariant-loop-i l =
    least_from l.found.least (refuse rule.REPEATED_PART (alone_after (map (λ x. (set_state_of x).name) (take l.i l.states)) (map set_state_of (drop l.i l.states))))
    ≡ least_from l.initial.found.least (repeated_states (map set_state_of l.states))
