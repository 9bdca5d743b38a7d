use Rattle.std.proofs.Common.{◌∙◌}
use Rattle.vlt_core.specs.View.{program_of, header_of, case_of}
use Rattle.vlt_core.specs.KindedHeads.{case_broken}
use Rattle.cert_kinds_tallies.specs.Tallies.{tally_of}
use Rattle.cert_kinds.proofs.Declared.{row_next}
use Rattle.cert_kinds.proofs.declarations.tally_cases.Goals as goal

pub loop-d-preserved : goal.loop-d-preserved
loop-d-preserved c =
    c.loop-d.invariant
    ∙ row_next (case_broken (program_of c.args.p.now) (header_of c.args.header.now)) case_of (tally_of c.loop-d.all) (tally_of c.with_row-all.result) c.case_broken.result
    c.args.cases.now c.loop-d.d-index c.d-item.result c.d-item.is c.loop-d-test.true c.case_broken.ensures c.with_row-all.ensures
