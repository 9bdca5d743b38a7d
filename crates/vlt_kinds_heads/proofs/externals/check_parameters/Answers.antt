use Rattle.std.proofs.Common.{◌∙◌}
use Rattle.vlt_syntax.specs.View as view
use Rattle.vlt_kinds_types.proofs.OfNames.Loops.{found_next}
use Rattle.vlt_kinds_types.specs.Seen.{file_seen}
use Rattle.vlt_kinds_heads.specs.Externals as e
use Rattle.vlt_kinds_heads.proofs.externals.check_parameters.Goals as goal

pub loop-parameter-preserved : goal.loop-parameter-preserved
loop-parameter-preserved c =
    found_next (e.host_parameter_refused (file_seen c.args.file.now)) view.parameter_of _ _ _ _ _ c.loop-parameter-test.true c.parameter-item.is c.check_parameter.ensures
    ∙ c.loop-parameter.invariant
