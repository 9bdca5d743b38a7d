use Rattle.std.proofs.Common.{◌≡◌, map, drop}
use Rattle.vlt_core.specs.View.{program_of, func_of, operand_of}
use Rattle.vlt_core.specs.KindedOperands.{operands_broken}
use Rattle.cert_kinds_types.specs.Least.{least, lesser}
use Rattle.cert_kinds_exprs.specs.Scopes.{ids_of}
use Rattle.cert_kinds_exprs.specs.Wanted.{wanted_types}
use Rattle.cert_kinds_exprs.proofs.operands.operands_broken.Given as goal

abbrev pub invariant-loop-i : goal.invariant-loop-i
invariant-loop-i l =
    least (operands_broken (program_of l.p) (func_of l.f) (ids_of l.ids) (wanted_types l.wanted) (map operand_of l.args))
    ≡ lesser l.found (least (operands_broken (program_of l.p) (func_of l.f) (ids_of l.ids) (drop l.i (wanted_types l.wanted)) (map operand_of (drop l.i l.args))))
