use Rattle.std.proofs.Common.{◌≡◌, ℕ, length}
use Rattle.vlt_core_laws.specs.Sweep.{IsNothing}
use Rattle.vlt_faults.specs.Finding.Marks.{at}
use Rattle.vlt_faults.proofs.finding.tables.nothings.Given as goal

abbrev pub invariant-loop-i : goal.invariant-loop-i
invariant-loop-i l = (length l.table.items ≡ l._i) × ((i : ℕ) → IsNothing (at l.table.items i))
