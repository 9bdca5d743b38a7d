use Rattle.std.proofs.Common.{◌≡◌, ◌++◌, drop, map}
use Rattle.vlt_core.specs.View.{ty_of, var_of}
use Rattle.vlt_resolve_calls.proofs.calls.param_types.Given as goal

abbrev pub invariant-loop-decl : goal.invariant-loop-decl
invariant-loop-decl l =
    map ty_of l.types ++ map (λ d. d.ty) (map var_of (drop l.decl-index l.decl-items)) ≡ map (λ d. d.ty) (map var_of l.decl-items)
