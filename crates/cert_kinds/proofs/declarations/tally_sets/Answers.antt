use Rattle.std.proofs.Common.{◌∙◌}
use Rattle.vlt_core.specs.View.{set_of}
use Rattle.vlt_core.specs.KindedHeads.{set_broken}
use Rattle.cert_kinds_tallies.specs.Tallies.{tally_of}
use Rattle.cert_kinds.proofs.Declared.{row_next}
use Rattle.cert_kinds.proofs.declarations.tally_sets.Goals as goal

pub loop-d-preserved : goal.loop-d-preserved
loop-d-preserved c =
    c.loop-d.invariant
    ∙ row_next set_broken set_of (tally_of c.loop-d.all) (tally_of c.with_row-all.result) c.set_broken.result c.args.sets.now c.loop-d.d-index c.d-item.result c.d-item.is
    c.loop-d-test.true c.set_broken.ensures c.with_row-all.ensures
