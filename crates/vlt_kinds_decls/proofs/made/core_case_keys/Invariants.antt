use Rattle.std.proofs.Common.{◌≡◌, ◌++◌, drop, map}
use Rattle.vlt_syntax.specs.View as view
use Rattle.vlt_core.specs.View as core_view
use Rattle.vlt_kinds_types.specs.Types as t
use Rattle.vlt_kinds_types.specs.Seen.{file_seen}
use Rattle.vlt_kinds_decls.specs.Decls as d
use Rattle.vlt_kinds_decls.specs.Made as m
use Rattle.vlt_kinds_decls.specs.declared.parts.Part.TheVariants as part
use Rattle.vlt_kinds_decls.proofs.made.core_case_keys.Given as goal

abbrev pub invariant-loop-key : goal.invariant-loop-key
invariant-loop-key l =
    map core_view.case_key_of l.made ++ map (m.core_case_key (file_seen l.file) (map view.header_key_of l.params)) (map view.key_states_of (drop l.key-index l.keys))
    ≡ map (m.core_case_key (file_seen l.file) (map view.header_key_of l.params)) (map view.key_states_of l.keys)
