use Rattle.std.proofs.Common.{◌≡◌, drop, map}
use Rattle.vlt_syntax.specs.View as view
use Rattle.vlt_core.specs.View as core_view
use Rattle.vlt_kinds_types.specs.Names.Refusals.{found_each}
use Rattle.vlt_kinds_types.specs.Types as t
use Rattle.vlt_kinds_types.specs.Seen.{file_seen, states_seen}
use Rattle.vlt_kinds_decls.specs.Decls as d
use Rattle.vlt_kinds_decls.specs.Made as m
use Rattle.vlt_kinds_decls.specs.declared.parts.Part.TheVariants as part
use Rattle.vlt_kinds_decls.proofs.fields.check_fields.Given as goal

abbrev pub invariant-loop-field : goal.invariant-loop-field
invariant-loop-field l =
    found_each (d.field_refused (file_seen l.file) (map view.header_key_of l.params) (states_seen l.known)) (map view.field_of (drop l.field-index l.fields)) l.found.least
    ≡ found_each (d.field_refused (file_seen l.file) (map view.header_key_of l.params) (states_seen l.known)) (map view.field_of l.fields) l.initial.found.least
