use Rattle.std.proofs.Common.{◌≡◌, ◌≤◌, ◌^◌, ◌+◌, ◌-◌, ℕ, length}
use Rattle.vlt_keyset.specs.Held.{at}
use Rattle.vlt_keyset.proofs.tables.reach_to.Given as goal

abbrev pub invariant-loop-table : goal.invariant-loop-table
invariant-loop-table l = record {
  few : length l.initial.table.items ≤ 2 ^ 32 → length l.table.items ≤ 2 ^ 32;
  same : (i : ℕ) → at l.table.items i ≡ at l.initial.table.items i;
}

abbrev pub decreases-loop-table : goal.decreases-loop-table
decreases-loop-table l = l.place + 1 - length l.table.items
