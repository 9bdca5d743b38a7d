use Rattle.std.proofs.Common.{◌≡◌, ◌++◌, drop, map}
use Rattle.vlt_core.specs.View as view
use Rattle.vlt_kinds_queries.specs.Rounds as m
use Rattle.vlt_kinds_queries.specs.Types.{declared_seen}
use Rattle.vlt_kinds_queries.proofs.declared.Declared.marked_more.Given as goal

abbrev pub invariant-loop-decl : goal.invariant-loop-decl
invariant-loop-decl l =
    l.more ++ map (m.decl_marked (declared_seen l.self) l.marks) (map view.type_of (drop l.decl-index l.self.types.now))
    ≡ map (m.decl_marked (declared_seen l.self) l.marks) (map view.type_of l.self.types.now)
