use Rattle.std.proofs.Common.{◌∙◌}
use Rattle.cert_kinds_types.proofs.Smallest.{each_item}
use Rattle.vlt_core.specs.View.{entry_of}
use Rattle.cert_kinds_heads.proofs.clauses.new_entries_broken.Goals as goal

pub loop-e-preserved : goal.loop-e-preserved
loop-e-preserved c =
    rw (c.lesser-found.ensures, c.new_entry_broken.ensures)
    (c.loop-e.invariant ∙ each_item _ entry_of c.loop-e.found c.args.clause.now c.loop-e.e-index c.e-item.result c.e-item.is c.loop-e-test.true)
