use Rattle.std.proofs.Common.{◌∙◌}
use Rattle.vlt_syntax.specs.View as view
use Rattle.vlt_core.specs.View as core_view
use Rattle.vlt_kinds_types.proofs.OfNames.Loops.{found_next}
use Rattle.vlt_kinds_types.specs.Seen.{file_seen}
use Rattle.vlt_kinds_decls.specs.Decls as d
use Rattle.vlt_kinds_decls.specs.Made as m
use Rattle.vlt_kinds_decls.proofs.header.check_header.Goals as goal

pub loop-param-preserved : goal.loop-param-preserved
loop-param-preserved c =
    found_next (d.header_refused (file_seen c.args.file.now)) view.header_key_of _ _ _ _ _ c.loop-param-test.true c.param-item.is c.check_header_key.ensures
    ∙ c.loop-param.invariant
