use Rattle.std.proofs.Common.{◌≡◌, map, drop}
use Rattle.vlt_core.specs.View.{program_of, type_of}
use Rattle.cert_kinds_tallies.specs.Tallies.{tally_of, tallied}
use Rattle.cert_kinds.specs.Whole.{types_rows, types_rows_from}
use Rattle.cert_kinds.proofs.declarations.tally_types.Given as goal

abbrev pub invariant-loop-t : goal.invariant-loop-t
invariant-loop-t l =
    tallied (tally_of l.fn.tally) (types_rows (program_of l.p) (map type_of l.types))
    ≡ tallied (tally_of l.all) (types_rows_from (program_of l.p) l.t (map type_of (drop l.t l.types)))
