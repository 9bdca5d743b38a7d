use Rattle.std.proofs.Common.{◌≡◌, ◌++◌, drop, map}
use Rattle.vlt_syntax.specs.View as view
use Rattle.vlt_kinds_types.specs.Names.Refusals.{of_each}
use Rattle.vlt_kinds_types.specs.Names.Globals.{names_seen}
use Rattle.vlt_kinds_types.specs.Files as f
use Rattle.vlt_kinds_types.proofs.shapes.shapes_of.Given as goal

abbrev pub invariant-loop-decl : goal.invariant-loop-decl
invariant-loop-decl l =
    l.shapes ++ of_each (f.shapes_in (names_seen l.known)) (map view.decl_of (drop l.decl-index l.decls))
    ≡ of_each (f.shapes_in (names_seen l.known)) (map view.decl_of l.decls)
