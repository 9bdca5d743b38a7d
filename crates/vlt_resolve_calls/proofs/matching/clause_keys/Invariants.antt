use Rattle.std.proofs.Common.{◌≡◌, ◌++◌, drop, map}
use Rattle.vlt_core.specs.View.{entry_of}
use Rattle.vlt_resolve_calls.specs.Calls.{clause_keys}
use Rattle.vlt_resolve_calls.specs.Seen.{pairs_of}
use Rattle.vlt_resolve_calls.proofs.matching.clause_keys.Given as goal

abbrev pub invariant-loop-entry : goal.invariant-loop-entry
invariant-loop-entry l =
    l.keys ++ clause_keys (pairs_of l.pairs) (map entry_of (drop l.entry-index l.clause)) ≡ clause_keys (pairs_of l.pairs) (map entry_of l.clause)
