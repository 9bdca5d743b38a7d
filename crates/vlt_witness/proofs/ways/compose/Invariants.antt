use Rattle.std.proofs.Common.{take}
use Rattle.vlt_witness.specs.Ways.{On, nothing_found}
use Rattle.vlt_witness.specs.Search.{Spreads, By, CanBy}
use Rattle.vlt_witness.proofs.ways.compose.Given as goal

abbrev pub invariant-loop-way : goal.invariant-loop-way
invariant-loop-way l = Spreads (By (On l.steps)) (CanBy (On l.steps)) (On (take l.way-index l.ways)) nothing_found (On l.list)
