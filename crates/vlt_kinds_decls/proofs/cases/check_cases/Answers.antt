use Rattle.std.proofs.Common.{◌∙◌, map}
use Rattle.vlt_syntax.specs.View as view
use Rattle.vlt_core.specs.View as core_view
use Rattle.vlt_kinds_types.proofs.OfNames.Loops.{found_next}
use Rattle.vlt_kinds_types.specs.Seen.{file_seen}
use Rattle.vlt_kinds_decls.specs.Decls as d
use Rattle.vlt_kinds_decls.specs.Made as m
use Rattle.vlt_kinds_decls.proofs.cases.check_cases.Goals as goal

pub loop-case-preserved : goal.loop-case-preserved
loop-case-preserved c =
    found_next (d.case_refused (file_seen c.args.file.now) (map view.header_key_of c.args.params.now)) view.case_of _ _ _ _ _
    c.loop-case-test.true c.case-item.is c.in_ok-check_case.ensures
    ∙ c.loop-case.invariant
