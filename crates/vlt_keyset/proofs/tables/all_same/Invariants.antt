use Rattle.std.proofs.Common.{◌≡◌, ℕ, ◌<◌, get_or}
use Rattle.vlt_core.specs.declared.held.Status.{Status}
use Rattle.vlt_keyset.proofs.tables.all_same.Given as goal

abbrev pub invariant-loop-i : goal.invariant-loop-i
invariant-loop-i l = (k : ℕ) (d : Status) → k < l.i → get_or l.xs k d ≡ get_or l.ys k d
