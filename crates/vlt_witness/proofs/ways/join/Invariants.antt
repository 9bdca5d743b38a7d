use Rattle.std.proofs.Common.{take}
use Rattle.vlt_witness.specs.Ways.{On}
use Rattle.vlt_witness.specs.Search.{Joined}
use Rattle.vlt_witness.proofs.ways.join.Given as goal

abbrev pub invariant-loop-way : goal.invariant-loop-way
invariant-loop-way l = Joined (On l.fn.list) (On (take l.way-index l.more)) (On l.list)
