use Rattle.std.proofs.Common.{◌≡◌, drop, map}
use Rattle.std.specs.List.{list_any}
use Rattle.vlt_core.specs.View as view
use Rattle.vlt_kinds_queries.specs.Rounds as m
use Rattle.vlt_kinds_queries.specs.Types.{declared_seen}
use Rattle.vlt_kinds_queries.proofs.declared.Declared.is_case_marked.Given as goal

abbrev pub invariant-loop-case : goal.invariant-loop-case
invariant-loop-case l =
    list_any (λ c. list_any (m.part_marked (declared_seen l.self) l.marks) c.payload) (map view.case_of l.cases)
    ≡ list_any (λ c. list_any (m.part_marked (declared_seen l.self) l.marks) c.payload) (map view.case_of (drop l.case-index l.cases))
