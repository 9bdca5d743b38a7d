use Rattle.std.proofs.Common.{drop, map}
use Rattle.vlt_core.specs.View as v
use Rattle.c_syntax.specs.View.{stmt_of}
use Rattle.c_lower.specs.Expressions.{operand_codes}
use Rattle.c_lower_exprs.specs.Tables.{numbers_of}
use Rattle.c_lower_exprs.specs.Scopes.{func_in, program_in}
use Rattle.c_lower_exprs.specs.Coded.{atom_of}
use Rattle.c_lower_exprs.proofs.OperandLoops.{GoesOn}
use Rattle.c_lower_exprs.proofs.operands.lower_operands.Given as goal

-- what was written, and then what is left, is the whole
abbrev pub invariant-loop-operand : goal.invariant-loop-operand
invariant-loop-operand l =
    GoesOn (operand_codes (program_in l.scope) (func_in l.scope) (numbers_of l.next) (map v.operand_of (drop l.operand-index l.operands)))
    (operand_codes (program_in l.scope) (func_in l.scope) (numbers_of l.fn.t) (map v.operand_of l.operands))
    (map stmt_of l.initial.out) (map stmt_of l.out) (map (map atom_of) l.atoms)
