use Rattle.std.proofs.Common.{List, take}
use Rattle.vlt_core.specs.Found.{One}
use Rattle.vlt_core.specs.Witness.{Choice}
use Rattle.vlt_witness.specs.Ways.{OnSeen, end_of_join}
use Rattle.vlt_witness.proofs.explain.find.Given as goal

abbrev pub invariant-loop-seen : goal.invariant-loop-seen
invariant-loop-seen l = record { none : (f : One) (cs : List Choice) → OnSeen (take l.seen-index l.list) f (end_of_join l.join) cs → ⊥ }
