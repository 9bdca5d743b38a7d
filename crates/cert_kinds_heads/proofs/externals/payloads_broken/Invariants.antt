use Rattle.std.proofs.Common.{◌≡◌, map, drop}
use Rattle.std.specs.List.{flat_map}
use Rattle.cert_kinds_types.specs.Least.{least, lesser}
use Rattle.vlt_core.specs.View.{program_of, ty_of}
use Rattle.cert_kinds_heads.specs.Heads.{external_payload_broken}
use Rattle.cert_kinds_heads.proofs.externals.payloads_broken.Given as goal

abbrev pub invariant-loop-ty : goal.invariant-loop-ty
invariant-loop-ty l = least (flat_map (external_payload_broken (program_of l.p)) (map ty_of l.payload)) ≡ lesser l.found (least (flat_map (external_payload_broken (program_of l.p)) (map ty_of (drop l.ty-index l.payload))))
