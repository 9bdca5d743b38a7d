use Rattle.std.proofs.Common.{◌≡◌, map, drop}
use Rattle.vlt_core.specs.View.{program_of, func_of, key_of}
use Rattle.vlt_core.specs.KindedHeads.{listed_broken}
use Rattle.cert_kinds_types.specs.Least.{least, lesser}
use Rattle.cert_kinds_heads.proofs.heads.keys_broken.Given as goal

abbrev pub invariant-loop-k : goal.invariant-loop-k
invariant-loop-k l =
    least (listed_broken (program_of l.p) (func_of l.f) 0 (map key_of l.keys))
    ≡ lesser l.found (least (listed_broken (program_of l.p) (func_of l.f) l.k (map key_of (drop l.k l.keys))))
