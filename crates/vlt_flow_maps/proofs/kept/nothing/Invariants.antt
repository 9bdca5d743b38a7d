use Rattle.std.proofs.Common.{◌≡◌, ℕ, length, None}
use Rattle.vlt_flow_maps.specs.Kept.{slot}
use Rattle.vlt_flow_maps.proofs.kept.nothing.Given as goal

abbrev pub invariant-loop-i : goal.invariant-loop-i
invariant-loop-i l = record { long : length l.table.items ≡ l._i; none : (i : ℕ) → slot l.table.items i ≡ None }
