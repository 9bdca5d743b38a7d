use Rattle.std.proofs.Common.{◌-◌, ◌^◌}
use Rattle.vlt_witness.specs.Ways.{On}
use Rattle.vlt_witness.proofs.Looping.{IsClosing}
use Rattle.vlt_witness.proofs.ways.close.Given as goal

abbrev pub invariant-loop-index : goal.invariant-loop-index
invariant-loop-index l = IsClosing (On l.turn) (On l.ways) l.list l.index

abbrev pub decreases-loop-index : goal.decreases-loop-index
decreases-loop-index l = 2 ^ 64 - l.index
