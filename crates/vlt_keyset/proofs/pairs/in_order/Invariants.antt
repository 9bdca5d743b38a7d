use Rattle.std.proofs.Common.{drop, ◌-◌, length}
use Rattle.vlt_keyset.specs.Pairs.{AreInOrder}
use Rattle.vlt_keyset.proofs.pairs.in_order.Given as goal

abbrev pub invariant-loop-j : goal.invariant-loop-j
invariant-loop-j l = AreInOrder (drop (length l.pairs - l.j) l.pairs)
