use Rattle.std.proofs.Common.{◌≡◌, ◌++◌, drop}
use Rattle.vlt_core.specs.View.{keys_of}
use Rattle.vlt_resolve_calls.specs.Calls.{paired_each}
use Rattle.vlt_resolve_calls.specs.Seen.{pairs_of}
use Rattle.vlt_resolve_calls.proofs.matching.add_each.Given as goal

abbrev pub invariant-loop-i : goal.invariant-loop-i
invariant-loop-i l =
    pairs_of l.pairs ++ paired_each (keys_of (drop l.i l.callee)) (keys_of (drop l.i l.caller))
    ≡ pairs_of l.initial.pairs ++ paired_each (keys_of l.callee) (keys_of l.caller)
