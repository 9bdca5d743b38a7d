use Rattle.std.proofs.Common.{◌≡◌, ℕ, ◌<◌, ◌≤◌}
use Rattle.vlt_core.specs.Maps.{kind_of, absent}
use Rattle.vlt_keyset.specs.Held.{at}
use Rattle.vlt_keyset.proofs.tables.all_absent_from.Given as goal

abbrev pub invariant-loop-i : goal.invariant-loop-i
invariant-loop-i l = (k : ℕ) → l.start ≤ k → k < l.i → kind_of (at l.xs k) ≡ kind_of absent
