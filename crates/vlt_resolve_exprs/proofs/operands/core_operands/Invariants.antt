use Rattle.std.proofs.Common.{◌≡◌, ◌++◌, drop, map}
use Rattle.vlt_syntax.specs.View.{expr_of}
use Rattle.vlt_core.specs.View.{ty_of, operand_of}
use Rattle.vlt_kinds_types.specs.Seen.{kinds_seen}
use Rattle.vlt_resolve_exprs.specs.Seen.{scope_seen}
use Rattle.vlt_resolve_exprs.specs.Operands as o
use Rattle.vlt_resolve_exprs.proofs.operands.core_operands.Given as goal

abbrev pub invariant-loop-i : goal.invariant-loop-i
invariant-loop-i l =
    map operand_of l.made ++ o.core_operands (kinds_seen l.kinds) (scope_seen l.scope) (map expr_of (drop l.i l.exprs)) (map ty_of (drop l.i l.wanted))
    ≡ o.core_operands (kinds_seen l.kinds) (scope_seen l.scope) (map expr_of l.exprs) (map ty_of l.wanted)
