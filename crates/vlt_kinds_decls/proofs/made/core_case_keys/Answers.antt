use Rattle.std.proofs.Common.{◌∙◌, map}
use Rattle.vlt_syntax.specs.View as view
use Rattle.vlt_core.specs.View as core_view
use Rattle.vlt_kinds_types.proofs.OfNames.Loops.{made_next}
use Rattle.vlt_kinds_types.specs.Seen.{file_seen}
use Rattle.vlt_kinds_decls.specs.Decls as d
use Rattle.vlt_kinds_decls.specs.Made as m
use Rattle.vlt_kinds_decls.proofs.made.core_case_keys.Goals as goal

pub loop-key-preserved : goal.loop-key-preserved
loop-key-preserved c =
    made_next core_view.case_key_of (m.core_case_key (file_seen c.args.file.now) (map view.header_key_of c.args.params.now)) view.key_states_of _ _ _ _ _ _
    c.loop-key-test.true c.key-item.is c.in_ok-push.ensures.ok c.in_ok-core_case_key.ensures
    ∙ c.loop-key.invariant
