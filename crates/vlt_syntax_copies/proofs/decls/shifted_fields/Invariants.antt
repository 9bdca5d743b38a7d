use Rattle.std.proofs.Common.{◌≡◌, ◌++◌, drop, map}
use Rattle.vlt_syntax.specs.View.{field_of}
use Rattle.vlt_syntax_copies.specs.Mapped as m
use Rattle.vlt_syntax_copies.specs.Shifted as s
use Rattle.vlt_syntax_copies.proofs.decls.shifted_fields.Given as goal

abbrev pub invariant-loop-field : goal.invariant-loop-field
invariant-loop-field l = map field_of l.made ++ map (m.mapped_field (s.shifted_span l.by)) (map field_of (drop l.field-index l.fields)) ≡ map (m.mapped_field (s.shifted_span l.by)) (map field_of l.fields)
