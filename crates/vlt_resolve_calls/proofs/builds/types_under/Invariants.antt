use Rattle.std.proofs.Common.{◌≡◌, ◌++◌, drop, map}
use Rattle.vlt_core.specs.View.{keys_of, ty_of}
use Rattle.vlt_resolve_exprs.specs.Types.{ty_under}
use Rattle.vlt_resolve_calls.proofs.builds.types_under.Given as goal

abbrev pub invariant-loop-ty : goal.invariant-loop-ty
invariant-loop-ty l =
    map ty_of l.made ++ map (ty_under (keys_of l.args)) (map ty_of (drop l.ty-index l.types))
    ≡ map (ty_under (keys_of l.args)) (map ty_of l.types)
