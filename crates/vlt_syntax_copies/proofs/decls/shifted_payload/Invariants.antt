use Rattle.std.proofs.Common.{◌≡◌, ◌++◌, drop, map}
use Rattle.vlt_syntax.specs.View.{ty_of}
use Rattle.vlt_syntax_copies.specs.Mapped as m
use Rattle.vlt_syntax_copies.specs.Shifted as s
use Rattle.vlt_syntax_copies.proofs.decls.shifted_payload.Given as goal

abbrev pub invariant-loop-ty : goal.invariant-loop-ty
invariant-loop-ty l = map ty_of l.made ++ map (m.mapped_ty (s.shifted_span l.by)) (map ty_of (drop l.ty-index l.payload)) ≡ map (m.mapped_ty (s.shifted_span l.by)) (map ty_of l.payload)
