use Rattle.std.proofs.Common.{◌≡◌, map, drop}
use Rattle.std.specs.List.{flat_map}
use Rattle.vlt_core.specs.View.{program_of, var_of}
use Rattle.vlt_core.specs.KindedHeads.{types_at, typings}
use Rattle.cert_kinds_heads.specs.Summaries.{summary, both, summary_of}
use Rattle.cert_kinds_heads.proofs.given.parameters_give.Given as goal

abbrev pub invariant-loop-d : goal.invariant-loop-d
invariant-loop-d l = summary (types_at l.k (flat_map (typings (program_of l.p)) (map (λ d. d.ty) (map var_of l.vars)))) ≡ both (summary_of l.found) (summary (types_at l.k (flat_map (typings (program_of l.p)) (map (λ d. d.ty) (map var_of (drop l.d-index l.vars))))))
