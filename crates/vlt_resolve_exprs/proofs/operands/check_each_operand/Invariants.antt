use Rattle.std.proofs.Common.{◌≡◌, drop, map}
use Rattle.vlt_syntax.specs.View.{expr_of}
use Rattle.vlt_core.specs.View.{ty_of}
use Rattle.vlt_kinds_types.specs.Seen.{kinds_seen}
use Rattle.vlt_resolve_exprs.specs.Seen.{scope_seen}
use Rattle.vlt_resolve_exprs.specs.Least.{operands_found}
use Rattle.vlt_resolve_exprs.proofs.operands.check_each_operand.Given as goal

abbrev pub invariant-loop-i : goal.invariant-loop-i
invariant-loop-i l =
    operands_found (kinds_seen l.kinds) (scope_seen l.scope) (map ty_of (drop l.i l.wanted)) (map expr_of (drop l.i l.exprs)) l.found.least
    ≡ operands_found (kinds_seen l.kinds) (scope_seen l.scope) (map ty_of l.wanted) (map expr_of l.exprs) l.initial.found.least
