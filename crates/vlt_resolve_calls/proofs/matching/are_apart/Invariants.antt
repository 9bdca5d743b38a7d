use Rattle.std.proofs.Common.{◌≡◌, drop}
use Rattle.vlt_resolve_calls.specs.Calls.{are_apart}
use Rattle.vlt_resolve_calls.proofs.matching.are_apart.Given as goal

abbrev pub invariant-loop-i : goal.invariant-loop-i
invariant-loop-i l = are_apart l.keys ≡ are_apart (drop l.i l.keys)
