use Rattle.std.proofs.Common.{◌≡◌, ◌++◌, drop, map}
use Rattle.vlt_syntax.specs.View as view
use Rattle.vlt_core.specs.View as core_view
use Rattle.vlt_kinds_heads.specs.Places as p
use Rattle.vlt_kinds_heads.specs.Keys as k
use Rattle.vlt_kinds_heads.specs.Heads as h
use Rattle.vlt_kinds_heads.specs.Externals as e
use Rattle.vlt_kinds_heads.specs.Phase as q
use Rattle.vlt_kinds_heads.specs.Seen.{name_seen}
use Rattle.vlt_kinds_heads.proofs.places.add_clause.Given as goal

abbrev pub invariant-loop-entry : goal.invariant-loop-entry
invariant-loop-entry l =
    map name_seen l.names ++ map p.entry_name (map view.entry_of (drop l.entry-index l.clause))
    ≡ map name_seen l.initial.names ++ map p.entry_name (map view.entry_of l.clause)
