use Rattle.std.proofs.Common.{take}
use Rattle.vlt_witness.specs.Ways.{On, OnSeen}
use Rattle.vlt_witness.specs.Search.{Spreads, By, CanBy}
use Rattle.vlt_witness.proofs.seen.compose_seen.Given as goal

abbrev pub invariant-loop-way : goal.invariant-loop-way
invariant-loop-way l = Spreads (By (OnSeen l.steps)) (CanBy (OnSeen l.steps)) (On (take l.way-index l.ways)) (OnSeen l.fn.list) (OnSeen l.list)
