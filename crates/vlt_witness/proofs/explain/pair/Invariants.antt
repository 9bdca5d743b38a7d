use Rattle.std.proofs.Common.{take}
use Rattle.vlt_witness.specs.Ways.{OnSeen}
use Rattle.vlt_witness.specs.Shows.{HasNoPair}
use Rattle.vlt_witness.proofs.explain.pair.Given as goal

abbrev pub invariant-loop-seen : goal.invariant-loop-seen
invariant-loop-seen l = HasNoPair (OnSeen (take l.seen-index l.absent)) (OnSeen l.present)
