use Rattle.std.proofs.Common.{◌≡◌, drop, map}
use Rattle.std.specs.List.{list_any}
use Rattle.vlt_core.specs.View as view
use Rattle.vlt_kinds_queries.specs.Rounds as m
use Rattle.vlt_kinds_queries.specs.Types.{declared_seen}
use Rattle.vlt_kinds_queries.proofs.declared.Declared.is_payload_marked.Given as goal

abbrev pub invariant-loop-ty : goal.invariant-loop-ty
invariant-loop-ty l =
    list_any (m.part_marked (declared_seen l.self) l.marks) (map view.ty_of l.payload)
    ≡ list_any (m.part_marked (declared_seen l.self) l.marks) (map view.ty_of (drop l.ty-index l.payload))
