use Rattle.std.proofs.Common.{◌∙◌}
use Rattle.cert_kinds_types.proofs.Smallest.{each_item}
use Rattle.vlt_core.specs.View.{case_of}
use Rattle.cert_kinds_heads.proofs.externals.cases_broken.Goals as goal

pub loop-d-preserved : goal.loop-d-preserved
loop-d-preserved c =
    rw (c.lesser-found.ensures, c.case_broken.ensures)
    (c.loop-d.invariant ∙ each_item _ case_of c.loop-d.found c.args.cases.now c.loop-d.d-index c.d-item.result c.d-item.is c.loop-d-test.true)
