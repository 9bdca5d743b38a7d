use Rattle.std.proofs.Common.{◌≡◌, length}
use Rattle.vlt_keyset.specs.Tables.{IsAllAbsent}
use Rattle.vlt_keyset.proofs.absents.Given as goal

abbrev pub invariant-loop-i : goal.invariant-loop-i
invariant-loop-i l = record { long : length l.table.items ≡ l._i; absent : IsAllAbsent l.table.items }
