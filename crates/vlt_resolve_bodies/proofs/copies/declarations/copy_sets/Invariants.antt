use Rattle.std.proofs.Common.{◌≡◌, take}
use Rattle.vlt_resolve_bodies.proofs.copies.declarations.copy_sets.Given as goal

abbrev pub invariant-loop-set : goal.invariant-loop-set
invariant-loop-set l = l.made ≡ take l.set-index l.sets
