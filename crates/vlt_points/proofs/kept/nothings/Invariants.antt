use Rattle.std.proofs.Common.{◌≡◌, ℕ, length, []}
use Rattle.vlt_points.specs.Keeps.{row}
use Rattle.vlt_points.proofs.kept.nothings.Given as goal

abbrev pub invariant-loop-i : goal.invariant-loop-i
invariant-loop-i l = record { long : length l.table.items ≡ l._i; none : (i : ℕ) → row l.table.items i ≡ [] }
