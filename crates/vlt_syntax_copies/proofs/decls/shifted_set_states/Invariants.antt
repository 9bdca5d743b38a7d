use Rattle.std.proofs.Common.{◌≡◌, ◌++◌, drop, map}
use Rattle.vlt_syntax.specs.View.{set_state_of}
use Rattle.vlt_syntax_copies.specs.Mapped as m
use Rattle.vlt_syntax_copies.specs.Shifted as s
use Rattle.vlt_syntax_copies.proofs.decls.shifted_set_states.Given as goal

abbrev pub invariant-loop-state : goal.invariant-loop-state
invariant-loop-state l = map set_state_of l.made ++ map (m.mapped_set_state (s.shifted_span l.by)) (map set_state_of (drop l.state-index l.states)) ≡ map (m.mapped_set_state (s.shifted_span l.by)) (map set_state_of l.states)
