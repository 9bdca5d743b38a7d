use Rattle.std.proofs.Common.{◌∙◌}
use Rattle.vlt_core.specs.Kinded.{function_rows}
use Rattle.vlt_core.specs.View.{program_of, func_of}
use Rattle.cert_kinds_tallies.specs.Tallies.{tally_of}
use Rattle.cert_kinds.proofs.Declared.{rows_next}
use Rattle.cert_kinds.proofs.functions.tally_functions.Goals as goal

pub loop-g-preserved : goal.loop-g-preserved
loop-g-preserved c =
    c.loop-g.invariant
    ∙ rows_next (function_rows (program_of c.args.p.now)) func_of (tally_of c.loop-g.all) (tally_of c.in_ok-all.all) c.args.fns.now c.loop-g.g
    c.index-fns-g.result c.index-fns-g.is (search) c.in_ok-all.ensures
