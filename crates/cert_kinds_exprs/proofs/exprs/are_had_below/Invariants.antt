use Rattle.std.proofs.Common.{◌≡◌, ◌||◌, not, drop}
use Rattle.std.specs.List.{list_all}
use Rattle.std.proofs.Common.{nat_lt}
use Rattle.vlt_base.specs.States.{has_state}
use Rattle.cert_kinds_exprs.proofs.exprs.are_had_below.Given as goal

abbrev pub invariant-loop-state : goal.invariant-loop-state
invariant-loop-state l = list_all (λ s. not (nat_lt s l.count) || has_state l.states s) l.numbers ≡ list_all (λ s. not (nat_lt s l.count) || has_state l.states s) (drop l.state-index l.numbers)
