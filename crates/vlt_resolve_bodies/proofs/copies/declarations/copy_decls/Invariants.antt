use Rattle.std.proofs.Common.{◌≡◌, take}
use Rattle.vlt_resolve_bodies.proofs.copies.declarations.copy_decls.Given as goal

abbrev pub invariant-loop-decl : goal.invariant-loop-decl
invariant-loop-decl l = l.made ≡ take l.decl-index l.decls
