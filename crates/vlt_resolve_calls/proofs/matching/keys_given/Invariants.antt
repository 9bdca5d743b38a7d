use Rattle.std.proofs.Common.{◌≡◌, ◌++◌, drop, map}
use Rattle.vlt_core.specs.View.{keys_of, key_of}
use Rattle.vlt_resolve_calls.specs.Calls as calls
use Rattle.vlt_resolve_calls.specs.Seen.{pairs_of}
use Rattle.vlt_resolve_calls.proofs.matching.keys_given.Given as goal

abbrev pub invariant-loop-i : goal.invariant-loop-i
invariant-loop-i l =
    keys_of l.made ++ calls.keys_given (pairs_of l.pairs) l.fresh.0 l.i (map key_of (drop l.i l.keys))
    ≡ calls.keys_given (pairs_of l.pairs) l.fresh.0 0 (map key_of l.keys)
