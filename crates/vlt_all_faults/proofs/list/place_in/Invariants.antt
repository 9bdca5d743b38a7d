use Rattle.std.specs.Prelude.{◌≡◌}
use Rattle.vlt_all_faults.specs.Tokens.{finding_of}
use Rattle.vlt_all_faults.proofs.Lists.{Placing}
use Rattle.vlt_all_faults.proofs.list.place_in.Given as goal

abbrev pub invariant-loop-other : goal.invariant-loop-other
invariant-loop-other l = (l.n ≡ l.other-index) × Placing (finding_of l.fault) l.list l.other-index
