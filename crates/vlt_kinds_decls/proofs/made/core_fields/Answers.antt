use Rattle.std.proofs.Common.{◌∙◌, map}
use Rattle.vlt_syntax.specs.View as view
use Rattle.vlt_core.specs.View as core_view
use Rattle.vlt_kinds_types.proofs.OfNames.Loops.{made_next}
use Rattle.vlt_kinds_types.specs.Seen.{file_seen, states_seen}
use Rattle.vlt_kinds_decls.specs.Decls as d
use Rattle.vlt_kinds_decls.specs.Made as m
use Rattle.vlt_kinds_decls.proofs.made.core_fields.Goals as goal

pub loop-field-preserved : goal.loop-field-preserved
loop-field-preserved c =
    made_next core_view.field_of (m.core_field (file_seen c.args.file.now) (map view.header_key_of c.args.params.now) (states_seen c.args.known.now)) view.field_of _ _ _ _ _ _
    c.loop-field-test.true c.field-item.is c.in_ok-push.ensures.ok c.in_ok-core_field.ensures
    ∙ c.loop-field.invariant
