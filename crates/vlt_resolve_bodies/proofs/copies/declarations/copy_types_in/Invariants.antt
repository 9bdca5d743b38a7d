use Rattle.std.proofs.Common.{◌≡◌, take}
use Rattle.vlt_resolve_bodies.proofs.copies.declarations.copy_types_in.Given as goal

abbrev pub invariant-loop-ty : goal.invariant-loop-ty
invariant-loop-ty l = l.made ≡ take l.ty-index l.types
