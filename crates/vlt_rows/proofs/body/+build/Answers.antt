use Rattle.std.proofs.Common.{◌<◌, length, refl, inl, inr, subst, arith}
use Rattle.vlt_rows.specs.Instances.{program_in, func_in}
use Rattle.vlt_core.specs.Bodies.{flow_of_stmts}
use Rattle.vlt_core.specs.View.{stmts_of}
use Rattle.vlt_rows.specs.Unfit.{HasWide, HasPartStmts, NoArms}
use Rattle.vlt_core.specs.HeldView.{toks_of}
use Rattle.vlt_core.specs.declared.program.Block.{out-Block}
use Rattle.vlt_rows.proofs.Fitting.{handed_on}
use Rattle.vlt_rows.proofs.Building.{building_more, building_ends, wide_stmt, wide_block, arms_more, arm_made, arms_end, wide_arm}
use Rattle.vlt_rows.proofs.body.+build.Goals as goal

pub flow_arms-returns-in_err-rows : goal.flow_arms-returns-in_err-rows
flow_arms-returns-in_err-rows t c =
    let lt : c.loop-arm.arm-index < length c.args.arms.now = omega (arith, c.loop-arm-test.true) in
    handed_on _ _ _ c.from_residual.ensures.1
    (λ h. wide_arm (program_in c.args.i.now) (func_in c.args.i.now) (toks_of c.args.left.now) c.args.v.0 c.args.arms.now c.loop-arm.arm-index c.arm-item.result lt c.arm-item.is (inl h))
    (rw c.as_slice.ensures at c.in_err-rows.ensures)

pub flow_arms-returns-in_err-body : goal.flow_arms-returns-in_err-body
flow_arms-returns-in_err-body t c =
    let lt : c.loop-arm.arm-index < length c.args.arms.now = omega (arith, c.loop-arm-test.true) in
    handed_on _ _ _ c.from_residual-in_err-body.ensures.1
    (λ h. wide_arm (program_in c.args.i.now) (func_in c.args.i.now) (toks_of c.args.left.now) c.args.v.0 c.args.arms.now c.loop-arm.arm-index c.arm-item.result lt c.arm-item.is (inr h))
    c.in_err-body.ensures

pub flow_arms-loop-arm-preserved : goal.flow_arms-loop-arm-preserved
flow_arms-loop-arm-preserved t c =
    let lt : c.loop-arm.arm-index < length c.args.arms.now = omega (arith, c.loop-arm-test.true) in
    let rows = rw c.as_slice.ensures at c.in_ok-rows.ensures in
    rw c.in_ok-push.ensures.ok
    (arms_more (program_in c.args.i.now) (func_in c.args.i.now) (toks_of c.args.left.now) c.args.v.0 c.args.arms.now c.loop-arm.arm-index c.loop-arm.list c.arm-item.result _ lt c.arm-item.is
    (arm_made (program_in c.args.i.now) (func_in c.args.i.now) (toks_of c.args.left.now) c.args.v.0 c.in_ok-rows.rows c.in_ok-body.body _ _ rows c.in_ok-body.ensures) c.loop-arm.invariant)

pub flow_arms-returns : goal.flow_arms-returns
flow_arms-returns t c =
    arms_end (program_in c.args.i.now) (func_in c.args.i.now) (toks_of c.args.left.now) c.args.v.0 _ _ _
    (omega (arith, c.loop-arm-test.false)) c.loop-arm.invariant

pub flow_block-returns-in_err-flow_stmts : goal.flow_block-returns-in_err-flow_stmts
flow_block-returns-in_err-flow_stmts t c =
    let toks = rw c.as_slice.ensures at c.in_ok-inside.ensures in
    let wide = rw (c.as_slice-2.ensures, c.as_slice-3.ensures) at c.in_err-flow_stmts.ensures in
    handed_on _ _ _ c.from_residual-in_err-flow_stmts.ensures.1
    (λ h. wide_block (program_in c.args.i.now) (func_in c.args.i.now) (toks_of c.args.left.now) c.args.block.now (subst (λ ts. HasPartStmts HasWide NoArms (flow_of_stmts (program_in c.args.i.now) (func_in c.args.i.now) ts (stmts_of (out-Block c.args.block.now).stmts))) toks h))
    wide

pub flow_stmts-returns-in_err-flow : goal.flow_stmts-returns-in_err-flow
flow_stmts-returns-in_err-flow t c =
    let lt : c.loop-s.s-index < length c.args.stmts.now = omega (arith, c.loop-s-test.true) in
    handed_on _ _ _ c.from_residual.ensures.1
    (λ h. wide_stmt (program_in c.args.i.now) (func_in c.args.i.now) (toks_of c.args.left.now) c.args.stmts.now c.loop-s.s-index c.s-item.result lt c.s-item.is h)
    c.in_err-flow.ensures

pub flow_stmts-loop-s-preserved : goal.flow_stmts-loop-s-preserved
flow_stmts-loop-s-preserved t c =
    let lt : c.loop-s.s-index < length c.args.stmts.now = omega (arith, c.loop-s-test.true) in
    rw c.in_ok-push.ensures.ok
    (building_more (program_in c.args.i.now) (func_in c.args.i.now) (toks_of c.args.left.now) c.args.stmts.now c.loop-s.s-index c.loop-s.list c.s-item.result _ lt c.s-item.is refl c.in_ok-flow.ensures c.loop-s.invariant)

pub flow_stmts-returns : goal.flow_stmts-returns
flow_stmts-returns t c =
    building_ends (program_in c.args.i.now) (func_in c.args.i.now) (toks_of c.args.left.now) _ _ _
    (omega (arith, c.loop-s-test.false)) c.loop-s.invariant
