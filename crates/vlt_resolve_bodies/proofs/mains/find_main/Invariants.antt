use Rattle.std.proofs.Common.{◌≡◌, map, drop}
use Rattle.std.specs.List.{position, position_from}
use Rattle.vlt_core.specs.View.{func_of}
use Rattle.vlt_elaboration.specs.Elaboration as e
use Rattle.vlt_resolve_bodies.proofs.mains.find_main.Given as goal

abbrev pub invariant-loop-i : goal.invariant-loop-i
invariant-loop-i l = position e.is_main (map func_of l.heads) ≡ position_from e.is_main l.i (map func_of (drop l.i l.heads))
