use Rattle.std.proofs.Common.{◌≡◌, map, drop}
use Rattle.std.specs.List.{flat_map}
use Rattle.cert_kinds_types.specs.Least.{least, lesser}
use Rattle.vlt_core.specs.View.{func_of, keys_of, case_key_of}
use Rattle.cert_kinds_heads.specs.Heads.{external_case_key_broken}
use Rattle.cert_kinds_heads.proofs.externals.case_keys_broken.Given as goal

abbrev pub invariant-loop-key : goal.invariant-loop-key
invariant-loop-key l = least (flat_map (external_case_key_broken (func_of l.f) (keys_of l.args)) (map case_key_of l.keys)) ≡ lesser l.found (least (flat_map (external_case_key_broken (func_of l.f) (keys_of l.args)) (map case_key_of (drop l.key-index l.keys))))
