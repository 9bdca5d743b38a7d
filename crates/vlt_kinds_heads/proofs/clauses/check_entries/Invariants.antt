use Rattle.std.proofs.Common.{◌≡◌, drop, map}
use Rattle.vlt_syntax.specs.View as view
use Rattle.vlt_core.specs.View as core_view
use Rattle.vlt_kinds_types.specs.Names.Refusals.{found_each}
use Rattle.vlt_kinds_types.specs.Seen.{file_seen}
use Rattle.vlt_kinds_heads.specs.Places as p
use Rattle.vlt_kinds_heads.specs.Keys as k
use Rattle.vlt_kinds_heads.specs.Heads as h
use Rattle.vlt_kinds_heads.specs.Externals as e
use Rattle.vlt_kinds_heads.specs.Phase as q
use Rattle.vlt_kinds_heads.specs.Seen.{keys_seen}
use Rattle.vlt_kinds_heads.proofs.clauses.check_entries.Given as goal

abbrev pub invariant-loop-entry : goal.invariant-loop-entry
invariant-loop-entry l =
    found_each (h.entry_refused (file_seen l.file) (keys_seen l.keys)) (map view.entry_of (drop l.entry-index l.clause)) l.found.least
    ≡ found_each (h.entry_refused (file_seen l.file) (keys_seen l.keys)) (map view.entry_of l.clause) l.initial.found.least
