use Rattle.vlt_keyset.proofs.Joining.{Joining}
use Rattle.vlt_keyset.proofs.tables.unite_all.Given as goal

abbrev pub invariant-loop-i : goal.invariant-loop-i
invariant-loop-i l = Joining l.initial.xs l.ys l.xs l.i l.grew
