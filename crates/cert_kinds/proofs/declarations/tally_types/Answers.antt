use Rattle.std.proofs.Common.{◌∙◌}
use Rattle.vlt_core.specs.View.{program_of, type_of}
use Rattle.cert_kinds_tallies.specs.Tallies.{tally_of}
use Rattle.cert_kinds.specs.Whole.{numbered_type_rows}
use Rattle.cert_kinds.proofs.Declared.{rows_next}
use Rattle.cert_kinds.proofs.declarations.tally_types.Goals as goal

pub loop-t-preserved : goal.loop-t-preserved
loop-t-preserved c =
    c.loop-t.invariant
    ∙ rows_next (numbered_type_rows (program_of c.args.p.now)) type_of (tally_of c.loop-t.all) (tally_of c.tally_type-all.result) c.args.types.now c.loop-t.t
    c.index-types-t.result c.index-types-t.is (search) c.tally_type-all.ensures
