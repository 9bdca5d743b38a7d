use Rattle.std.proofs.Common.{◌≡◌, ◌++◌, drop, map}
use Rattle.vlt_core.specs.View.{keys_of}
use Rattle.vlt_core.specs.Types.{stands_for}
use Rattle.vlt_resolve_exprs.proofs.types.keys_at.Given as goal

abbrev pub invariant-loop-position : goal.invariant-loop-position
invariant-loop-position l =
    keys_of l.keys ++ map (stands_for (keys_of l.args)) (keys_of (drop l.position-index l.positions)) ≡ map (stands_for (keys_of l.args)) (keys_of l.positions)
