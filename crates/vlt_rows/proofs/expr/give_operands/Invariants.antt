use Rattle.vlt_core.specs.View.{program_of, func_of, operand_of}
use Rattle.vlt_core.specs.Rows.{operand_rows}
use Rattle.vlt_rows.proofs.Looping.{Going}
use Rattle.vlt_rows.proofs.expr.give_operands.Given as goal

abbrev pub invariant-loop-operand : goal.invariant-loop-operand
invariant-loop-operand g l = Going g.S.RowSink.takes g.S.RowSink.stops (λ o. operand_rows (program_of l.p) (func_of l.f) (operand_of o)) (l.operands) l.fn.to l.operand-index l.to
