use Rattle.std.proofs.Common.{◌≡◌, drop, map}
use Rattle.std.specs.List.{list_any}
use Rattle.vlt_syntax.specs.View as view
use Rattle.vlt_kinds_types.specs.Names.Globals.{names_seen}
use Rattle.vlt_kinds_types.specs.Files as f
use Rattle.vlt_kinds_types.proofs.shapes.leaves_some_open.Given as goal

abbrev pub invariant-loop-ty : goal.invariant-loop-ty
invariant-loop-ty l =
    list_any (f.leaves_payload_open (names_seen l.known)) (map view.ty_of l.payload)
    ≡ list_any (f.leaves_payload_open (names_seen l.known)) (map view.ty_of (drop l.ty-index l.payload))
