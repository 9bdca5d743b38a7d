use Rattle.std.proofs.Common.{◌≡◌, nat_lt, map, drop}
use Rattle.std.specs.List.{list_all}
use Rattle.vlt_core.specs.View.{var_of}
use Rattle.vlt_core.specs.Types.{keys_of_ty}
use Rattle.cert_kinds_calls.proofs.fitting.are_types_below.Given as goal

abbrev pub invariant-loop-d : goal.invariant-loop-d
invariant-loop-d l = list_all (λ ty. list_all (λ k. nat_lt k l.count) (keys_of_ty ty)) (map (λ d. d.ty) (map var_of l.vars)) ≡ list_all (λ ty. list_all (λ k. nat_lt k l.count) (keys_of_ty ty)) (map (λ d. d.ty) (map var_of (drop l.d-index l.vars)))
