use Rattle.std.proofs.Common.{◌≡◌, map, drop}
use Rattle.vlt_core.specs.View.{program_of, func_of}
use Rattle.cert_kinds_tallies.specs.Tallies.{tally_of, tallied}
use Rattle.cert_kinds.specs.Whole.{functions_rows, functions_rows_from}
use Rattle.cert_kinds.proofs.functions.tally_functions.Given as goal

abbrev pub invariant-loop-g : goal.invariant-loop-g
invariant-loop-g l =
    tallied (tally_of l.fn.tally) (functions_rows (program_of l.p) (map func_of l.fns))
    ≡ tallied (tally_of l.all) (functions_rows_from (program_of l.p) l.g (map func_of (drop l.g l.fns)))
