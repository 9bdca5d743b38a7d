use Rattle.std.proofs.Common.{◌≡◌, drop}
use Rattle.std.specs.List.{list_all}
use Rattle.vlt_base.specs.States.{has_state}
use Rattle.vlt_core.specs.Types.{is_same_bool}
use Rattle.cert_kinds_exprs.proofs.seen.are_same_at.Given as goal

abbrev pub invariant-loop-state : goal.invariant-loop-state
invariant-loop-state l = list_all (λ s. is_same_bool (has_state l.a s) (has_state l.b s)) l.states ≡ list_all (λ s. is_same_bool (has_state l.a s) (has_state l.b s)) (drop l.state-index l.states)
