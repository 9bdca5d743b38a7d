use Rattle.std.proofs.Common.{◌≡◌, take}
use Rattle.vlt_resolve_bodies.proofs.copies.declarations.copy_names.Given as goal

abbrev pub invariant-loop-name : goal.invariant-loop-name
invariant-loop-name l = l.made ≡ take l.name-index l.names
