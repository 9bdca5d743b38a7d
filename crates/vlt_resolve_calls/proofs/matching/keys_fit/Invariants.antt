use Rattle.std.proofs.Common.{◌≡◌, drop}
use Rattle.vlt_resolve_calls.specs.Calls.{keys_fit}
use Rattle.vlt_resolve_calls.specs.Seen.{pairs_of}
use Rattle.vlt_resolve_calls.proofs.matching.keys_fit.Given as goal

abbrev pub invariant-loop-pair : goal.invariant-loop-pair
invariant-loop-pair l =
    keys_fit (pairs_of l.pairs) (pairs_of l.keys) ≡ keys_fit (pairs_of l.pairs) (pairs_of (drop l.pair-index l.keys))
