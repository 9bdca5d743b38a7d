use Rattle.vlt_core.specs.View.{program_of}
use Rattle.cert_kinds_tallies.specs.Tallies.{tally_of}
use Rattle.cert_kinds.proofs.Declared.{program_rows}
use Rattle.cert_kinds.proofs.whole.tally_program.Goals as goal

pub returns : goal.returns
returns c =
    let sets = rw c.as_slice.ensures at c.tally_sets-sets.ensures in
    let types = rw c.as_slice-2.ensures at c.tally_types-types.ensures in
    let all = rw c.as_slice-3.ensures at c.in_ok-all.ensures in
    program_rows (program_of c.args.p.now) (tally_of c.clean.result) (tally_of c.with_row-own.result) (tally_of c.tally_sets-sets.result)
    (tally_of c.tally_types-types.result) (tally_of c.in_ok-all.all) c.has_main.result c.unless.result
    c.has_main.ensures c.unless.ensures c.clean.ensures c.with_row-own.ensures sets types all
