use Rattle.std.proofs.Common.{◌≡◌, map, drop}
use Rattle.std.specs.List.{flat_map}
use Rattle.vlt_core.specs.View.{var_of}
use Rattle.vlt_core.specs.KindedHeads.{types_at, own_typings}
use Rattle.cert_kinds_heads.specs.Summaries.{summary, both, summary_of}
use Rattle.cert_kinds_heads.proofs.given.locals_give.Given as goal

abbrev pub invariant-loop-d : goal.invariant-loop-d
invariant-loop-d l = summary (types_at l.k (flat_map (λ d. own_typings d.ty) (map var_of l.vars))) ≡ both (summary_of l.found) (summary (types_at l.k (flat_map (λ d. own_typings d.ty) (map var_of (drop l.d-index l.vars)))))
