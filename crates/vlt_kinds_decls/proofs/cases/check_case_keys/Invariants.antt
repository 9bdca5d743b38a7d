use Rattle.std.proofs.Common.{◌≡◌, ◌<◌, [], drop, map, All}
use Rattle.vlt_syntax.specs.View as view
use Rattle.vlt_core.specs.View as core_view
use Rattle.vlt_kinds_types.specs.Names.Along.{found_along}
use Rattle.vlt_kinds_types.specs.Types as t
use Rattle.vlt_kinds_types.specs.Seen.{file_seen}
use Rattle.vlt_kinds_decls.specs.Decls as d
use Rattle.vlt_kinds_decls.specs.Made as m
use Rattle.vlt_kinds_decls.specs.declared.parts.Part.TheVariants as part
use Rattle.vlt_kinds_decls.proofs.cases.check_case_keys.Given as goal

abbrev pub invariant-loop-key : goal.invariant-loop-key
invariant-loop-key l = record {
  refused : found_along (d.with_key (map view.header_key_of l.params)) (d.next_key_refused (file_seen l.file) (map view.header_key_of l.params)) l.seen (map view.key_states_of (drop l.key-index l.keys)) l.found.least
      ≡ found_along (d.with_key (map view.header_key_of l.params)) (d.next_key_refused (file_seen l.file) (map view.header_key_of l.params)) [] (map view.key_states_of l.keys) l.initial.found.least;
  small : All (λ i. i < 32) l.seen;
}
