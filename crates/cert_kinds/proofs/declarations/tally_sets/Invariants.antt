use Rattle.std.proofs.Common.{◌≡◌, map, drop}
use Rattle.vlt_core.specs.View.{set_of}
use Rattle.vlt_core.specs.KindedHeads.{set_broken}
use Rattle.cert_kinds_tallies.specs.Tallies.{tally_of, tallied}
use Rattle.cert_kinds.proofs.declarations.tally_sets.Given as goal

abbrev pub invariant-loop-d : goal.invariant-loop-d
invariant-loop-d l = tallied (tally_of l.fn.tally) (map set_broken (map set_of l.sets)) ≡ tallied (tally_of l.all) (map set_broken (map set_of (drop l.d-index l.sets)))
