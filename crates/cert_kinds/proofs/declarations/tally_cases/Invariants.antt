use Rattle.std.proofs.Common.{◌≡◌, map, drop}
use Rattle.vlt_core.specs.View.{program_of, header_of, case_of}
use Rattle.vlt_core.specs.KindedHeads.{case_broken}
use Rattle.cert_kinds_tallies.specs.Tallies.{tally_of, tallied}
use Rattle.cert_kinds.proofs.declarations.tally_cases.Given as goal

abbrev pub invariant-loop-d : goal.invariant-loop-d
invariant-loop-d l =
    tallied (tally_of l.fn.tally) (map (case_broken (program_of l.p) (header_of l.header)) (map case_of l.cases))
    ≡ tallied (tally_of l.all) (map (case_broken (program_of l.p) (header_of l.header)) (map case_of (drop l.d-index l.cases)))
