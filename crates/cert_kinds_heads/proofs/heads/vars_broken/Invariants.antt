use Rattle.std.proofs.Common.{◌≡◌, map, drop}
use Rattle.std.specs.List.{flat_map}
use Rattle.cert_kinds_types.specs.Least.{least, lesser}
use Rattle.vlt_core.specs.View.{program_of, func_of, var_of}
use Rattle.vlt_core.specs.KindedHeads.{type_broken}
use Rattle.cert_kinds_heads.proofs.heads.vars_broken.Given as goal

abbrev pub invariant-loop-d : goal.invariant-loop-d
invariant-loop-d l = least (flat_map (λ d. type_broken (program_of l.p) (func_of l.f) d.ty) (map var_of l.vars)) ≡ lesser l.found (least (flat_map (λ d. type_broken (program_of l.p) (func_of l.f) d.ty) (map var_of (drop l.d-index l.vars))))
