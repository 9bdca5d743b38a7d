use Rattle.std.proofs.Common.{◌≡◌, ◌++◌, drop, map}
use Rattle.vlt_core.specs.View.{ty_of}
use Rattle.c_lower.specs.Slots.{payload_positions}
use Rattle.c_lower_exprs.specs.Scopes.{starts_of}
use Rattle.c_lower_exprs.proofs.payloads.payload_positions.Given as goal

abbrev pub invariant-loop-ty : goal.invariant-loop-ty
invariant-loop-ty l =
    l.made ++ payload_positions (starts_of l.next) (map ty_of (drop l.ty-index l.payload)) ≡ payload_positions (starts_of l.fn.starts) (map ty_of l.payload)
