use Rattle.std.proofs.Common.{◌≡◌, map, drop}
use Rattle.vlt_syntax.specs.View.{set_state_of}
use Rattle.vlt_printer.specs.Layout.{further_states_after}
use Rattle.vlt_printer.proofs.decls.write_further_states.Given as goal

-- what is left, after what was written, is the whole
abbrev pub invariant-loop-state : goal.invariant-loop-state
invariant-loop-state l =
    further_states_after (map set_state_of (drop l.state-index l.states)) l.out.items
    ≡ further_states_after (map set_state_of l.states) l.initial.out.items
