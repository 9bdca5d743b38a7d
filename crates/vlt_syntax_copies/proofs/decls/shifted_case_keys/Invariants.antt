use Rattle.std.proofs.Common.{◌≡◌, ◌++◌, drop, map}
use Rattle.vlt_syntax.specs.View.{key_states_of}
use Rattle.vlt_syntax_copies.specs.Mapped as m
use Rattle.vlt_syntax_copies.specs.Shifted as s
use Rattle.vlt_syntax_copies.proofs.decls.shifted_case_keys.Given as goal

abbrev pub invariant-loop-key : goal.invariant-loop-key
invariant-loop-key l = map key_states_of l.made ++ map (m.mapped_key_states (s.shifted_span l.by)) (map key_states_of (drop l.key-index l.keys)) ≡ map (m.mapped_key_states (s.shifted_span l.by)) (map key_states_of l.keys)
