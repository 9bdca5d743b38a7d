use Rattle.std.proofs.Common.{◌≡◌, drop}
use Rattle.vlt_resolve_calls.specs.Calls.{caller_key}
use Rattle.vlt_resolve_calls.specs.Seen.{pairs_of}
use Rattle.vlt_resolve_calls.proofs.matching.caller_key.Given as goal

abbrev pub invariant-loop-callee : goal.invariant-loop-callee
invariant-loop-callee l =
    caller_key (pairs_of l.pairs) l.key.0 ≡ caller_key (pairs_of (drop l.callee-index l.pairs)) l.key.0
