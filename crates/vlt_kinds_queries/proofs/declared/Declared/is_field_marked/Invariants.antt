use Rattle.std.proofs.Common.{◌≡◌, drop, map}
use Rattle.std.specs.List.{list_any}
use Rattle.vlt_core.specs.View as view
use Rattle.vlt_kinds_queries.specs.Rounds as m
use Rattle.vlt_kinds_queries.specs.Types.{declared_seen}
use Rattle.vlt_kinds_queries.proofs.declared.Declared.is_field_marked.Given as goal

abbrev pub invariant-loop-field : goal.invariant-loop-field
invariant-loop-field l =
    list_any (λ f. m.part_marked (declared_seen l.self) l.marks f.ty) (map view.field_of l.fields)
    ≡ list_any (λ f. m.part_marked (declared_seen l.self) l.marks f.ty) (map view.field_of (drop l.field-index l.fields))
