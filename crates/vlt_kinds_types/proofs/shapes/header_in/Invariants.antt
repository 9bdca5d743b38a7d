use Rattle.std.proofs.Common.{◌≡◌, ◌++◌, drop, map}
use Rattle.vlt_syntax.specs.View as view
use Rattle.vlt_kinds_types.specs.Names.Globals.{names_seen}
use Rattle.vlt_kinds_types.specs.Files as f
use Rattle.vlt_kinds_types.proofs.shapes.header_in.Given as goal

abbrev pub invariant-loop-param : goal.invariant-loop-param
invariant-loop-param l =
    l.header ++ f.header_in (names_seen l.known) (map view.header_key_of (drop l.param-index l.params))
    ≡ f.header_in (names_seen l.known) (map view.header_key_of l.params)
