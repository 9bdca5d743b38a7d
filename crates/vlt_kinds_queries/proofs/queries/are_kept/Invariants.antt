use Rattle.std.proofs.Common.{◌≡◌, ◌||◌, not, drop}
use Rattle.std.specs.List.{list_all}
use Rattle.vlt_base.specs.States.{has_state}
use Rattle.vlt_kinds_queries.proofs.queries.are_kept.Given as goal

abbrev pub invariant-loop-state : goal.invariant-loop-state
invariant-loop-state l =
    list_all (λ s. not (has_state l.a s) || has_state l.b s) l.states ≡ list_all (λ s. not (has_state l.a s) || has_state l.b s) (drop l.state-index l.states)
