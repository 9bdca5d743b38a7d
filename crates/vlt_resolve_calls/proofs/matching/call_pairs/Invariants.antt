use Rattle.std.proofs.Common.{◌≡◌, ◌++◌, drop, map}
use Rattle.vlt_syntax.specs.View.{expr_of}
use Rattle.vlt_core.specs.View.{ty_of}
use Rattle.vlt_kinds_types.specs.Seen.{kinds_seen}
use Rattle.vlt_resolve_exprs.specs.Seen.{scope_seen}
use Rattle.vlt_resolve_calls.specs.Calls as calls
use Rattle.vlt_resolve_calls.specs.Seen.{pairs_of}
use Rattle.vlt_resolve_calls.proofs.matching.call_pairs.Given as goal

abbrev pub invariant-loop-i : goal.invariant-loop-i
invariant-loop-i l =
    pairs_of l.pairs ++ calls.call_pairs (kinds_seen l.kinds) (scope_seen l.scope) (map expr_of (drop l.i l.args)) (map ty_of (drop l.i l.params))
    ≡ calls.call_pairs (kinds_seen l.kinds) (scope_seen l.scope) (map expr_of l.args) (map ty_of l.params)
