use Rattle.std.proofs.Common.{◌≡◌, map, drop}
use Rattle.std.specs.List.{list_any}
use Rattle.vlt_core.specs.View.{var_of}
use Rattle.vlt_core.specs.KindedHeads.{has}
use Rattle.vlt_core.specs.Types.{keys_of_ty}
use Rattle.cert_kinds_heads.proofs.keys.any_has.Given as goal

abbrev pub invariant-loop-d : goal.invariant-loop-d
invariant-loop-d l = list_any (λ ty. has (keys_of_ty ty) l.k) (map (λ d. d.ty) (map var_of l.vars)) ≡ list_any (λ ty. has (keys_of_ty ty) l.k) (map (λ d. d.ty) (map var_of (drop l.d-index l.vars)))
