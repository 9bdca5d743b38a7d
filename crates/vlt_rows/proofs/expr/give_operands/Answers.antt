use Rattle.std.proofs.Common.{arith}
use Rattle.vlt_core.specs.View.{program_of, func_of, operand_of}
use Rattle.vlt_core.specs.Rows.{operand_rows}
use Rattle.std.proofs.lemmas.List.Folds.{flat_map-map}
use Rattle.vlt_rows.proofs.Looping.{going_more, going_stops, going_ends}
use Rattle.vlt_rows.proofs.expr.give_operands.Goals as goal

pub returns-in_err-give_operand : goal.returns-in_err-give_operand
returns-in_err-give_operand g c =
    rw (flat_map-map (operand_rows (program_of c.args.p.now) (func_of c.args.f.now)) operand_of c.args.operands.now)
    (going_stops _ _ (λ o. operand_rows (program_of c.args.p.now) (func_of c.args.f.now) (operand_of o)) (c.args.operands.now) _ _ _ _ _ _ _ (omega arith) c.operand-item.is c.loop-operand.invariant c.from_residual.ensures.1 c.in_err-give_operand.ensures)

pub loop-operand-preserved : goal.loop-operand-preserved
loop-operand-preserved g c =
    going_more _ _ (λ o. operand_rows (program_of c.args.p.now) (func_of c.args.f.now) (operand_of o)) (c.args.operands.now) _ _ _ _ _ (omega arith) c.operand-item.is c.loop-operand.invariant c.in_ok-give_operand.ensures

pub returns : goal.returns
returns g c =
    rw (flat_map-map (operand_rows (program_of c.args.p.now) (func_of c.args.f.now)) operand_of c.args.operands.now)
    (going_ends _ _ (λ o. operand_rows (program_of c.args.p.now) (func_of c.args.f.now) (operand_of o)) (c.args.operands.now) _ _ _ (omega (arith, c.loop-operand-test.false)) c.loop-operand.invariant)
