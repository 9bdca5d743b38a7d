use Rattle.std.proofs.Common.{◌≡◌, drop}
use Rattle.vlt_core.specs.KindedHeads.{has}
use Rattle.vlt_core.specs.View.{keys_of}
use Rattle.cert_kinds_heads.proofs.keys.has_key.Given as goal

abbrev pub invariant-loop-j : goal.invariant-loop-j
invariant-loop-j l = has (keys_of l.keys) l.k ≡ has (keys_of (drop l.j-index l.keys)) l.k
