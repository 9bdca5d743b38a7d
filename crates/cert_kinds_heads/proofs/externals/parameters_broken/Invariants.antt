use Rattle.std.proofs.Common.{◌≡◌, map, drop}
use Rattle.std.specs.List.{flat_map}
use Rattle.cert_kinds_types.specs.Least.{least, lesser}
use Rattle.vlt_core.specs.View.{var_of}
use Rattle.cert_kinds_heads.specs.Heads.{external_parameter_broken}
use Rattle.cert_kinds_heads.proofs.externals.parameters_broken.Given as goal

abbrev pub invariant-loop-d : goal.invariant-loop-d
invariant-loop-d l = least (flat_map (external_parameter_broken) (map (λ d. d.ty) (map var_of l.vars))) ≡ lesser l.found (least (flat_map (external_parameter_broken) (map (λ d. d.ty) (map var_of (drop l.d-index l.vars)))))
