use Rattle.std.proofs.Common.{◌≡◌, ◌≤◌, ◌+◌, ◌-◌, length, filter}
use Rattle.std.specs.List.{range_with_len}
use Rattle.vlt_base.specs.States.{has_state}
use Rattle.cert_read.proofs.bounds.count.Given as goal

abbrev pub invariant-loop-s : goal.invariant-loop-s
invariant-loop-s l =
    (l.n + length (filter (has_state l.states) (range_with_len l.s (32 - l.s)))
    ≡ length (filter (has_state l.states) (range_with_len 0 32))) × (l.n ≤ l.s)
