use Rattle.std.proofs.Common.{◌<◌, length, arith}
use Rattle.cert_write.proofs.Going.{stmts_more, arms_more}
use Rattle.cert_write.proofs.Inside.{choice_then, loop_then, switch_then, focus_then, scope_then}
use Rattle.cert_write.proofs.walk.+walk.Goals as goal

pub put_form-returns-in_ok-to-in-Switch : goal.put_form-returns-in_ok-to-in-Switch
put_form-returns-in_ok-to-in-Switch t c =
    switch_then c.args.bound c.args.annotations.now c.args.form.now c.args.from.next
    c.args.out.now c.put_cases.new.out c.put_arms.new.out c.in_ok-to-in-Switch.to c.put_arms.result
    c.in-Switch.v c.in-Switch.arms c.as_slice.result.now c.as_slice-in-Switch.result.now c.in-Switch.end c.in-Switch.is
    c.as_slice.ensures c.as_slice-in-Switch.ensures c.in_ok-to-in-Switch.ensures.row c.put_arms.ensures

pub put_form-returns-in_ok-to-in-Focus : goal.put_form-returns-in_ok-to-in-Focus
put_form-returns-in_ok-to-in-Focus t c =
    focus_then c.args.bound c.args.annotations.now c.args.form.now c.args.from.next
    c.args.out.now c.put_focus.new.out c.put_block-in-Focus.new.out c.in_ok-to-in-Focus.to
    c.put_block-in-Focus.result c.in-Focus.y c.in-Focus.z c.in-Focus.body c.in-Focus.is
    c.in_ok-to-in-Focus.ensures c.put_block-in-Focus.ensures

pub put_form-returns-in_ok-to-in-Scope : goal.put_form-returns-in_ok-to-in-Scope
put_form-returns-in_ok-to-in-Scope t c =
    scope_then c.args.bound c.args.annotations.now c.args.form.now c.args.from.next
    c.args.out.now c.put_scope.new.out c.put_block-in-Scope.new.out c.in_ok-to-in-Scope.to
    c.put_block-in-Scope.result c.in-Scope.body c.in-Scope.is
    c.in_ok-to-in-Scope.ensures c.put_block-in-Scope.ensures

pub put_form-returns-in_ok-to-in-While : goal.put_form-returns-in_ok-to-in-While
put_form-returns-in_ok-to-in-While t c =
    loop_then c.args.bound c.args.annotations.now c.args.form.now c.args.from.next
    c.args.out.now c.put_loop.new.out c.put_block-in-While.new.out c.in_ok-to-in-While.to
    c.put_block-in-While.result c.in-While.cond c.in-While.body c.in-While.is
    c.in_ok-to-in-While.ensures c.put_block-in-While.ensures

pub put_stmts-loop-stmt-preserved : goal.put_stmts-loop-stmt-preserved
put_stmts-loop-stmt-preserved t c =
    let lt : c.loop-stmt.stmt-index < length c.args.stmts.now = omega (arith, c.loop-stmt-test.true) in
    stmts_more c.args.bound c.args.annotations.now c.args.from.next c.args.out.now c.args.stmts.now c.loop-stmt.stmt-index c.stmt-item.result
    c.loop-stmt.out c.put_form.new.out c.loop-stmt.to c.in_ok-to.to lt c.stmt-item.is
    c.loop-stmt.invariant c.in_ok-to.ensures

pub put_form-returns-in_ok-to-in-If-2 : goal.put_form-returns-in_ok-to-in-If-2
put_form-returns-in_ok-to-in-If-2 t c =
    choice_then c.args.bound c.args.annotations.now c.args.form.now c.args.from.next
    c.args.out.now c.put_block.new.out c.put_block-in-If.new.out c.in_ok-to-in-If-2.to
    c.put_block-in-If.result c.in-If.cond c.in-If.then_block c.in-If.else_block
    c.put_choice.new.out c.in_ok-to-in-If.to c.in-If.is
    c.in_ok-to-in-If.ensures c.in_ok-to-in-If-2.ensures c.put_block-in-If.ensures

pub put_arms-loop-arm-preserved : goal.put_arms-loop-arm-preserved
put_arms-loop-arm-preserved t c =
    let lt : c.loop-arm.arm-index < length c.args.arms.now = omega (arith, c.loop-arm-test.true) in
    arms_more c.args.bound c.args.annotations.now c.args.from.next c.args.out.now c.args.arms.now c.loop-arm.arm-index c.arm-item.result
    c.loop-arm.out c.put_block.new.out c.loop-arm.to c.in_ok-to.to lt c.arm-item.is
    c.loop-arm.invariant c.in_ok-to.ensures
