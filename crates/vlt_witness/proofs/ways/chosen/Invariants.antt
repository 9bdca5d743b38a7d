use Rattle.std.proofs.Common.{take}
use Rattle.vlt_core.specs.Witness.{choice}
use Rattle.vlt_core.specs.FaultView.{pick_of}
use Rattle.vlt_witness.specs.Ways.{On, nothing_found}
use Rattle.vlt_witness.specs.Search.{Walks, Takes}
use Rattle.vlt_witness.proofs.ways.chosen.Given as goal

abbrev pub invariant-loop-way : goal.invariant-loop-way
invariant-loop-way l = Walks (Takes (choice l.at (pick_of l.pick))) (On (take l.way-index l.ways)) nothing_found (On l.list)
