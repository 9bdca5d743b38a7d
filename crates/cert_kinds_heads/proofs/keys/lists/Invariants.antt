use Rattle.std.proofs.Common.{◌≡◌, map, drop}
use Rattle.vlt_core.specs.KindedHeads.{has}
use Rattle.vlt_core.specs.View.{entry_of}
use Rattle.cert_kinds_heads.proofs.keys.lists.Given as goal

abbrev pub invariant-loop-e : goal.invariant-loop-e
invariant-loop-e l = has (map (λ e. e.key) (map entry_of l.clause)) l.k ≡ has (map (λ e. e.key) (map entry_of (drop l.e-index l.clause))) l.k
