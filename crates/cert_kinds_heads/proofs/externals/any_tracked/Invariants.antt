use Rattle.std.proofs.Common.{◌≡◌, map, drop}
use Rattle.std.specs.List.{list_any}
use Rattle.vlt_core.specs.View.{var_of}
use Rattle.vlt_core.specs.KindedHeads.{has, own_typings}
use Rattle.cert_kinds_heads.proofs.externals.any_tracked.Given as goal

abbrev pub invariant-loop-d : goal.invariant-loop-d
invariant-loop-d l = list_any (λ ty. has (map (λ x. x.key) (own_typings ty)) l.k) (map (λ d. d.ty) (map var_of l.vars)) ≡ list_any (λ ty. has (map (λ x. x.key) (own_typings ty)) l.k) (map (λ d. d.ty) (map var_of (drop l.d-index l.vars)))
