use Rattle.std.proofs.Common.{◌≡◌, ◌++◌, map, drop}
use Rattle.vlt_base.specs.States.{has_state}
use Rattle.vlt_reports.specs.Reports.{named_in}
use Rattle.vlt_reports.proofs.statuses.named.Given as goal

abbrev pub invariant-loop-number : goal.invariant-loop-number
invariant-loop-number l =
    map (λ n. n.now) l.found.items ++ named_in (has_state l.states) l.number (map (λ n. n) (drop l.number l.names))
    ≡ named_in (has_state l.states) 0 (map (λ n. n) l.names)
