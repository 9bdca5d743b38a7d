use Rattle.std.proofs.Common.{◌≡◌, ◌-◌, length, drop}
use Rattle.vlt_keyset.specs.Held.{map_of}
use Rattle.vlt_keyset.specs.Pairs.{map_of_pairs}
use Rattle.cert_check.proofs.dense.dense.Given as goal

abbrev pub invariant-loop-j : goal.invariant-loop-j
invariant-loop-j l = map_of l.held ≡ map_of_pairs (drop (length l.pairs - l.j) l.pairs)
