use Rattle.vlt_keyset.proofs.Putting.{IsPut}
use Rattle.vlt_keyset.proofs.Held.of_pairs.Given as goal

abbrev pub invariant-loop-j : goal.invariant-loop-j
invariant-loop-j l = IsPut l.fn.counts.keys l.fn.counts.vars l.pairs l.j l.held
