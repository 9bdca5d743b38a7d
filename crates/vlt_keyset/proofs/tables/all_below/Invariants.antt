use Rattle.std.proofs.Common.{ℕ, ◌<◌}
use Rattle.vlt_core.specs.Maps.{IsStatusBelow}
use Rattle.vlt_keyset.specs.Held.{at}
use Rattle.vlt_keyset.proofs.tables.all_below.Given as goal

abbrev pub invariant-loop-i : goal.invariant-loop-i
invariant-loop-i l = (k : ℕ) → k < l.i → IsStatusBelow (at l.xs k) (at l.ys k)
