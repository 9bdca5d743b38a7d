use Rattle.std.proofs.Common.{◌≡◌, drop, map}
use Rattle.vlt_syntax.specs.View as view
use Rattle.vlt_core.specs.View as core_view
use Rattle.vlt_kinds_types.specs.Names.Along.{found_along}
use Rattle.vlt_kinds_heads.specs.Places as p
use Rattle.vlt_kinds_heads.specs.Keys as k
use Rattle.vlt_kinds_heads.specs.Heads as h
use Rattle.vlt_kinds_heads.specs.Externals as e
use Rattle.vlt_kinds_heads.specs.Phase as q
use Rattle.vlt_kinds_heads.specs.Seen.{keys_seen}
use Rattle.vlt_kinds_heads.proofs.keys.HeadKeys.check_clause_again.Given as goal

abbrev pub invariant-loop-entry : goal.invariant-loop-entry
invariant-loop-entry l = record {
  keys : k.following_clause (keys_seen l.self) (map view.entry_of (drop l.entry-index l.clause)) ≡ k.following_clause (keys_seen l.initial.self) (map view.entry_of l.clause);
  refused : found_along k.following_entry h.again_refused (keys_seen l.self) (map view.entry_of (drop l.entry-index l.clause)) l.found.least
      ≡ found_along k.following_entry h.again_refused (keys_seen l.initial.self) (map view.entry_of l.clause) l.initial.found.least;
}
