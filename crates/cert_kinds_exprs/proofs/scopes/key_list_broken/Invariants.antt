use Rattle.std.proofs.Common.{◌≡◌, drop}
use Rattle.std.specs.List.{flat_map}
use Rattle.cert_kinds_types.specs.Least.{least, lesser}
use Rattle.std.proofs.Common.{option_map}
use Rattle.vlt_core.specs.View.{keys_of, func_of}
use Rattle.vlt_core.specs.KindedScopes.{with_key}
use Rattle.cert_kinds_exprs.specs.Scopes.{ids_of, key_in_scope}
use Rattle.cert_kinds_exprs.proofs.scopes.key_list_broken.Given as goal

abbrev pub invariant-loop-k : goal.invariant-loop-k
invariant-loop-k l = least (flat_map (key_in_scope (func_of l.f) (with_key (func_of l.f) (option_map (λ k. k.0) l.fresh) (ids_of l.ids))) (keys_of l.keys)) ≡ lesser l.found (least (flat_map (key_in_scope (func_of l.f) (with_key (func_of l.f) (option_map (λ k. k.0) l.fresh) (ids_of l.ids))) (keys_of (drop l.k-index l.keys))))
