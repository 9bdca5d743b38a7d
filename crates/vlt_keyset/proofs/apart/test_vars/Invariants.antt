use Rattle.vlt_core.specs.Core.{a_var}
use Rattle.vlt_keyset.specs.Held.{map_of}
use Rattle.vlt_keyset.specs.Pairs.{map_of_pairs}
use Rattle.vlt_keyset.specs.Cursors.{IsAt, AreBelow}
use Rattle.vlt_keyset.proofs.apart.test_vars.Given as goal

abbrev pub invariant-loop-v : goal.invariant-loop-v
invariant-loop-v l = IsAt l.pairs l.at (a_var l.v) × AreBelow (map_of l.held) (map_of_pairs l.pairs) (a_var l.v)
