use Rattle.std.proofs.Common.{◌≡◌, drop}
use Rattle.std.specs.List.{list_all}
use Rattle.vlt_resolve_calls.specs.Calls.{is_pair}
use Rattle.vlt_resolve_calls.specs.Seen.{pairs_of}
use Rattle.vlt_resolve_calls.proofs.matching.is_clear.Given as goal

abbrev pub invariant-loop-pair : goal.invariant-loop-pair
invariant-loop-pair l =
    list_all (is_pair (pairs_of l.pairs)) (pairs_of l.pairs) ≡ list_all (is_pair (pairs_of l.pairs)) (pairs_of (drop l.pair-index l.pairs))
