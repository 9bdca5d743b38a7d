use Rattle.vlt_core.specs.Core.{a_key}
use Rattle.vlt_keyset.specs.Held.{map_of}
use Rattle.vlt_keyset.specs.Pairs.{map_of_pairs}
use Rattle.vlt_keyset.specs.Cursors.{IsAt, AreBelow}
use Rattle.vlt_keyset.proofs.apart.test_keys.Given as goal

abbrev pub invariant-loop-k : goal.invariant-loop-k
invariant-loop-k l = IsAt l.pairs l.at (a_key l.k) × AreBelow (map_of l.held) (map_of_pairs l.pairs) (a_key l.k)
