use Rattle.std.proofs.Common.{◌≡◌, drop, map}
use Rattle.std.specs.List.{list_any}
use Rattle.vlt_syntax.specs.View as view
use Rattle.vlt_kinds_types.specs.Names.Globals.{names_seen}
use Rattle.vlt_kinds_types.specs.Files as f
use Rattle.vlt_kinds_types.proofs.shapes.is_left_open.Given as goal

abbrev pub invariant-loop-case : goal.invariant-loop-case
invariant-loop-case l =
    list_any (λ c. list_any (f.leaves_payload_open (names_seen l.known)) c.payload) (map view.case_of l.cases)
    ≡ list_any (λ c. list_any (f.leaves_payload_open (names_seen l.known)) c.payload) (map view.case_of (drop l.case-index l.cases))
