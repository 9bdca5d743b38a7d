use Rattle.std.proofs.Common.{◌≡◌, map, drop}
use Rattle.std.specs.List.{flat_map}
use Rattle.cert_kinds_types.specs.Least.{least, lesser}
use Rattle.vlt_core.specs.View.{program_of, func_of, keys_of, case_of}
use Rattle.vlt_core.specs.KindedHeads.{external_case_broken}
use Rattle.cert_kinds_heads.proofs.externals.cases_broken.Given as goal

abbrev pub invariant-loop-d : goal.invariant-loop-d
invariant-loop-d l = least (flat_map (external_case_broken (program_of l.p) (func_of l.f) (keys_of l.args)) (map case_of l.cases)) ≡ lesser l.found (least (flat_map (external_case_broken (program_of l.p) (func_of l.f) (keys_of l.args)) (map case_of (drop l.d-index l.cases))))
