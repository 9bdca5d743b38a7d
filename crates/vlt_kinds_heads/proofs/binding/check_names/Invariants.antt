use Rattle.std.proofs.Common.{◌≡◌, [], drop, map}
use Rattle.vlt_syntax.specs.View as view
use Rattle.vlt_core.specs.View as core_view
use Rattle.vlt_kinds_types.specs.Names.Along.{found_along}
use Rattle.vlt_kinds_types.specs.Names.Globals.{names_seen}
use Rattle.vlt_kinds_heads.specs.Places as p
use Rattle.vlt_kinds_heads.specs.Keys as k
use Rattle.vlt_kinds_heads.specs.Heads as h
use Rattle.vlt_kinds_heads.specs.Externals as e
use Rattle.vlt_kinds_heads.specs.Phase as q
use Rattle.vlt_kinds_heads.specs.Seen.{name_seen, table_seen}
use Rattle.vlt_kinds_heads.proofs.binding.check_names.Given as goal

abbrev pub invariant-loop-name : goal.invariant-loop-name
invariant-loop-name l =
    found_along h.with_name (h.name_refused (names_seen l.known)) (table_seen l.seen.seen.entries) (map name_seen (drop l.name-index l.names)) l.found.least
    ≡ found_along h.with_name (h.name_refused (names_seen l.known)) [] (map name_seen l.names) l.initial.found.least
