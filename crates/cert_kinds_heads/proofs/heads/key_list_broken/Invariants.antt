use Rattle.std.proofs.Common.{◌≡◌, drop}
use Rattle.std.specs.List.{flat_map}
use Rattle.cert_kinds_types.specs.Least.{least, lesser}
use Rattle.vlt_core.specs.View.{keys_of, func_of}
use Rattle.cert_kinds_heads.specs.Heads.{type_key_broken}
use Rattle.cert_kinds_heads.proofs.heads.key_list_broken.Given as goal

abbrev pub invariant-loop-k : goal.invariant-loop-k
invariant-loop-k l = least (flat_map (type_key_broken (func_of l.f)) (keys_of l.keys)) ≡ lesser l.found (least (flat_map (type_key_broken (func_of l.f)) (keys_of (drop l.k-index l.keys))))
