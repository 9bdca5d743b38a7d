use Rattle.std.proofs.Common.{take}
use Rattle.vlt_witness.specs.Ways.{On, OnSeen, class_of}
use Rattle.vlt_witness.specs.Search.{Sees}
use Rattle.vlt_witness.specs.Aims.{JoinHere, spot_of}
use Rattle.vlt_witness.proofs.seen.see_join.Given as goal

abbrev pub invariant-loop-way : goal.invariant-loop-way
invariant-loop-way l = Sees (JoinHere l.aim (spot_of l.at (class_of l.join.is_head) l.join.number)) (On (take l.way-index l.ways)) (OnSeen l.fn.list) (OnSeen l.list)
