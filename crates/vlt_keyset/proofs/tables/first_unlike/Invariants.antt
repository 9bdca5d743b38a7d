use Rattle.std.proofs.Common.{◌≡◌, ℕ, ◌<◌}
use Rattle.vlt_core.specs.Maps.{kind_of}
use Rattle.vlt_keyset.specs.Held.{at}
use Rattle.vlt_keyset.proofs.tables.first_unlike.Given as goal

abbrev pub invariant-loop-i : goal.invariant-loop-i
invariant-loop-i l = (k : ℕ) → k < l.i → kind_of (at l.xs k) ≡ kind_of (at l.ys k)
