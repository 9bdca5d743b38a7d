use Rattle.std.proofs.Common.{sym, refl, []}
use Rattle.vlt_core.proofs.Views.{if_form, while_form, switch_form, focus_form, scope_form}
use Rattle.vlt_core.specs.Instances.{instance}
use Rattle.vlt_core.specs.View.{program_of, func_of, block_of, expr_of}
use Rattle.vlt_core.specs.Bodies.{flow_of_block}
use Rattle.vlt_core.specs.Rows.{expr_rows}
use Rattle.vlt_core.specs.declared.program.Block.{out-Block}
use Rattle.vlt_paths.proofs.Choosing.{end_is}
use Rattle.vlt_paths.proofs.Pairing.{meets_scope, meets_focus, meets_after_choice, meets_loop, meets_after_loop, meets_switch, meets_after_switch, meets_then, meets_else, meets_head, meets_body, meets_block, meets_no_case, meets_no_arm, meets_taken_arm, following_first, following_more, following_here, following_ends, turning_first, turning_here, turning_more, turning_last, both_turning_first, both_turning_here, both_turning_more, both_turning_last}
use Rattle.vlt_paths.proofs.together.+together.Goals as goal

pub meet_block-returns : goal.meet_block-returns
meet_block-returns t c ts l = meets_block (program_of c.args.p.now) (instance (program_of c.args.p.now) (func_of c.args.f.now) c.args.hunt.origin) c.args.hunt ts c.args.left c.is_bound-inside.result c.args.block.now c.args.pair c.meet_stmts.result c.as_slice-2.result.now c.as_slice.result.now c.as_slice-2.ensures c.as_slice.ensures c.is_bound-inside.ensures l c.meet_stmts.ensures

pub meet_form-returns-then-meet_loop : goal.meet_form-returns-then-meet_loop
meet_form-returns-then-meet_loop t c ts l = rw (while_form _ _ _ c.in-While.is) (meets_loop c.args.hunt c.args.at _ _ c.args.pair c.meet_loop.result c.meet_loop.ensures c.if-meet_loop.true)

pub meet_form-returns-then-meet_switch : goal.meet_form-returns-then-meet_switch
meet_form-returns-then-meet_switch t c ts l = rw (switch_form _ _ _ _ c.in-Switch.is) (meets_switch c.args.hunt c.args.at _ _ c.in-Switch.end c.args.pair c.meet_switch.result ((rw c.as_slice.ensures at c.meet_switch.ensures) ts l) c.if-meet_switch.true)

pub meet_form-returns-in-Focus : goal.meet_form-returns-in-Focus
meet_form-returns-in-Focus t c ts l = rw (focus_form _ _ _ _ c.in-Focus.is) (meets_focus c.args.hunt c.args.at _ _ _ c.args.pair c.past_focus-inside.result c.meet_block-in-Focus.result c.past_focus-inside.ensures (c.meet_block-in-Focus.ensures ts l))

pub meet_form-returns-in-Scope : goal.meet_form-returns-in-Scope
meet_form-returns-in-Scope t c ts l = rw (scope_form _ _ c.in-Scope.is) (meets_scope c.args.hunt c.args.at _ c.args.pair c.meet_block-in-Scope.result (c.meet_block-in-Scope.ensures ts l))

pub meet_loop-loop-here-init : goal.meet_loop-loop-here-init
meet_loop-loop-here-init t c = both_turning_first c.args.hunt c.args.at (expr_rows (program_of c.args.p.now) (instance (program_of c.args.p.now) (func_of c.args.f.now) c.args.hunt.origin) (expr_of c.args.cond.now)) (flow_of_block (program_of c.args.p.now) (instance (program_of c.args.p.now) (func_of c.args.f.now) c.args.hunt.origin) [] (block_of c.args.body.now)) c.args.pair

pub meet_loop-returns-then-meet_turns : goal.meet_loop-returns-then-meet_turns
meet_loop-returns-then-meet_turns t c = both_turning_here c.args.hunt c.args.at (expr_rows (program_of c.args.p.now) (instance (program_of c.args.p.now) (func_of c.args.f.now) c.args.hunt.origin) (expr_of c.args.cond.now)) (flow_of_block (program_of c.args.p.now) (instance (program_of c.args.p.now) (func_of c.args.f.now) c.args.hunt.origin) [] (block_of c.args.body.now)) c.args.pair c.loop-here.here c.meet_turns.result c.loop-here.invariant c.meet_turns.ensures c.if-meet_turns.true

pub meet_loop-loop-here-preserved : goal.meet_loop-loop-here-preserved
meet_loop-loop-here-preserved t c = both_turning_more c.args.hunt c.args.at (expr_rows (program_of c.args.p.now) (instance (program_of c.args.p.now) (func_of c.args.f.now) c.args.hunt.origin) (expr_of c.args.cond.now)) (flow_of_block (program_of c.args.p.now) (instance (program_of c.args.p.now) (func_of c.args.f.now) c.args.hunt.origin) [] (block_of c.args.body.now)) c.args.pair c.loop-here.here c.meet_turns.result c.go_turn-turn.result c.loop-here.invariant c.meet_turns.ensures c.if-meet_turns.false c.go_turn-turn.ensures.along c.in-Continue.is

pub meet_stmts-loop-s-init : goal.meet_stmts-loop-s-init
meet_stmts-loop-s-init t c = following_first (program_of c.args.p.now) (instance (program_of c.args.p.now) (func_of c.args.f.now) c.args.hunt.origin) c.args.hunt c.args.left c.args.stmts.now c.args.pair

pub meet_stmts-returns-then-meet_form : goal.meet_stmts-returns-then-meet_form
meet_stmts-returns-then-meet_form t c ts l = following_here (program_of c.args.p.now) (instance (program_of c.args.p.now) (func_of c.args.f.now) c.args.hunt.origin) c.args.hunt c.args.left c.args.stmts.now c.args.pair c.loop-s.s-index c.loop-s.here c.s-item.result c.meet_form.result c.loop-s-test.true c.s-item.is c.loop-s.invariant c.meet_form.ensures c.if-meet_form.true ts l

pub meet_stmts-loop-s-preserved : goal.meet_stmts-loop-s-preserved
meet_stmts-loop-s-preserved t c = following_more (program_of c.args.p.now) (instance (program_of c.args.p.now) (func_of c.args.f.now) c.args.hunt.origin) c.args.hunt c.args.left c.args.stmts.now c.args.pair c.loop-s.s-index c.loop-s.here c.go_on-here.result c.s-item.result c.meet_form.result c.loop-s-test.true c.s-item.is c.loop-s.invariant c.meet_form.ensures c.if-meet_form.false c.go_on-here.ensures

pub meet_stmts-returns : goal.meet_stmts-returns
meet_stmts-returns t c ts l = following_ends (program_of c.args.p.now) (instance (program_of c.args.p.now) (func_of c.args.f.now) c.args.hunt.origin) c.args.hunt c.args.left c.args.stmts.now c.args.pair c.loop-s.s-index c.loop-s.here c.loop-s-test.false c.loop-s.invariant ts l

pub meet_switch-returns-in-None : goal.meet_switch-returns-in-None
meet_switch-returns-in-None t c ts l = meets_no_case c.args.hunt c.args.at (program_of c.args.p.now) (instance (program_of c.args.p.now) (func_of c.args.f.now) c.args.hunt.origin) ts c.args.v.0 _ c.args.arms.now c.args.pair c.past_switch-following.result c.past_switch-following.ensures c.arm.result c.in-None.is c.arm.ensures.none

pub meet_switch-returns-in-None-arm_at : goal.meet_switch-returns-in-None-arm_at
meet_switch-returns-in-None-arm_at t c ts l = meets_no_arm c.args.hunt c.args.at (program_of c.args.p.now) (instance (program_of c.args.p.now) (func_of c.args.f.now) c.args.hunt.origin) ts c.args.v.0 _ c.args.arms.now c.args.pair c.past_switch-following.result c.past_switch-following.ensures c.in-Some.position (rw c.in-Some.is at c.arm.ensures.some) (sym (rw c.in-None-arm_at.is at c.arm_at.ensures))

pub meet_switch-returns-in-Some-arm_at : goal.meet_switch-returns-in-Some-arm_at
meet_switch-returns-in-Some-arm_at t c ts l = meets_taken_arm c.args.hunt c.args.at (program_of c.args.p.now) (instance (program_of c.args.p.now) (func_of c.args.f.now) c.args.hunt.origin) ts c.args.v.0 _ c.args.arms.now c.args.pair c.past_switch-following.result c.past_switch-following.ensures c.in-Some.position (rw c.in-Some.is at c.arm.ensures.some) c.in-Some-arm_at.arm.now c.as_slice.result.now c.take.result c.past_arm-inside.result c.meet_block.result (sym (rw c.in-Some-arm_at.is at c.arm_at.ensures)) c.as_slice.ensures c.take.ensures c.past_arm-inside.ensures (c.meet_block.ensures ts l)

pub meet_turn-returns-then-is_join : goal.meet_turn-returns-then-is_join
meet_turn-returns-then-is_join t c = meets_head c.args.hunt c.args.at (expr_rows (program_of c.args.p.now) (instance (program_of c.args.p.now) (func_of c.args.f.now) c.args.hunt.origin) (expr_of c.args.cond.now)) (flow_of_block (program_of c.args.p.now) (instance (program_of c.args.p.now) (func_of c.args.f.now) c.args.hunt.origin) [] (block_of c.args.body.now)) c.args.pair c.is_join.result c.is_join.ensures c.if-is_join.true

pub meet_turn-returns-else-is_join : goal.meet_turn-returns-else-is_join
meet_turn-returns-else-is_join t c = meets_body c.args.hunt c.args.at (expr_rows (program_of c.args.p.now) (instance (program_of c.args.p.now) (func_of c.args.f.now) c.args.hunt.origin) (expr_of c.args.cond.now)) (flow_of_block (program_of c.args.p.now) (instance (program_of c.args.p.now) (func_of c.args.f.now) c.args.hunt.origin) [] (block_of c.args.body.now)) c.args.pair c.past_expr.result c.take-inside.result c.is_join.result c.meet_block.result c.is_join.ensures c.if-is_join.false c.past_expr.ensures c.take-inside.ensures (c.meet_block.ensures [] refl)

pub meet_turns-loop-here-init : goal.meet_turns-loop-here-init
meet_turns-loop-here-init t c = turning_first c.args.hunt c.args.at (expr_rows (program_of c.args.p.now) (instance (program_of c.args.p.now) (func_of c.args.f.now) c.args.hunt.origin) (expr_of c.args.cond.now)) (flow_of_block (program_of c.args.p.now) (instance (program_of c.args.p.now) (func_of c.args.f.now) c.args.hunt.origin) [] (block_of c.args.body.now)) c.args.pair

pub meet_turns-returns-then-meet_turn : goal.meet_turns-returns-then-meet_turn
meet_turns-returns-then-meet_turn t c = turning_here c.args.hunt c.args.at (expr_rows (program_of c.args.p.now) (instance (program_of c.args.p.now) (func_of c.args.f.now) c.args.hunt.origin) (expr_of c.args.cond.now)) (flow_of_block (program_of c.args.p.now) (instance (program_of c.args.p.now) (func_of c.args.f.now) c.args.hunt.origin) [] (block_of c.args.body.now)) c.args.pair c.loop-here.here c.meet_turn.result c.loop-here.invariant c.meet_turn.ensures c.if-meet_turn.true

pub meet_turns-loop-here-preserved : goal.meet_turns-loop-here-preserved
meet_turns-loop-here-preserved t c = turning_more c.args.hunt c.args.at (expr_rows (program_of c.args.p.now) (instance (program_of c.args.p.now) (func_of c.args.f.now) c.args.hunt.origin) (expr_of c.args.cond.now)) (flow_of_block (program_of c.args.p.now) (instance (program_of c.args.p.now) (func_of c.args.f.now) c.args.hunt.origin) [] (block_of c.args.body.now)) c.args.pair c.loop-here.here c.meet_turn.result c.go_turn-turn.result c.loop-here.invariant c.meet_turn.ensures c.if-meet_turn.false c.go_turn-turn.ensures.along c.in-Continue.is

pub meet_form-returns-else-meet_loop : goal.meet_form-returns-else-meet_loop
meet_form-returns-else-meet_loop t c ts l = rw (while_form _ _ _ c.in-While.is) (meets_after_loop c.args.hunt c.args.at (expr_rows (program_of c.args.p.now) (instance (program_of c.args.p.now) (func_of c.args.f.now) c.args.hunt.origin) (expr_of c.in-While.cond)) (flow_of_block (program_of c.args.p.now) (instance (program_of c.args.p.now) (func_of c.args.f.now) c.args.hunt.origin) [] (block_of c.in-While.body)) _ c.args.pair c.meet_loop.result c.meet_after-else-meet_loop.result (end_is (program_of c.args.p.now) (instance (program_of c.args.p.now) (func_of c.args.f.now) c.args.hunt.origin) [] c.in-While.body) c.meet_loop.ensures c.if-meet_loop.false (rw (while_form _ _ _ c.in-While.is) at (c.meet_after-else-meet_loop.ensures ts l)))

pub meet_form-returns-else-meet_switch : goal.meet_form-returns-else-meet_switch
meet_form-returns-else-meet_switch t c ts l = rw (switch_form _ _ _ _ c.in-Switch.is) (meets_after_switch c.args.hunt c.args.at _ _ c.in-Switch.end c.args.pair c.meet_switch.result c.meet_after-else-meet_switch.result ((rw c.as_slice.ensures at c.meet_switch.ensures) ts l) c.if-meet_switch.false (rw (switch_form _ _ _ _ c.in-Switch.is) at (c.meet_after-else-meet_switch.ensures ts l)))

pub meet_form-returns-then-meet_block : goal.meet_form-returns-then-meet_block
meet_form-returns-then-meet_block t c ts l = rw (if_form _ _ _ _ c.in-If.is) (meets_then c.args.hunt c.args.at _ _ _ c.args.pair c.past_expr-following.result c.take.result c.take.result c.meet_block.result c.meet_block.result c.past_expr-following.ensures c.take.ensures (c.meet_block.ensures ts l) c.if-meet_block.true)

pub meet_form-returns-then-meet_block-2 : goal.meet_form-returns-then-meet_block-2
meet_form-returns-then-meet_block-2 t c ts l =
    rw (if_form _ _ _ _ c.in-If.is) (meets_else c.args.hunt c.args.at (expr_rows (program_of c.args.p.now) (instance (program_of c.args.p.now) (func_of c.args.f.now) c.args.hunt.origin) (expr_of c.in-If.cond)) (flow_of_block (program_of c.args.p.now) (instance (program_of c.args.p.now) (func_of c.args.f.now) c.args.hunt.origin) ts (block_of c.in-If.then_block)) (flow_of_block (program_of c.args.p.now) (instance (program_of c.args.p.now) (func_of c.args.f.now) c.args.hunt.origin) ts (block_of c.in-If.else_block)) c.args.pair c.past_expr-following.result c.take.result c.take-in-If.result c.meet_block.result c.meet_block-in-If.result c.past_expr-following.ensures c.take.ensures (c.meet_block.ensures ts l) c.if-meet_block.false c.take-in-If.ensures (c.meet_block-in-If.ensures ts l) c.if-meet_block-2.true)

pub meet_form-returns-else-meet_block-2 : goal.meet_form-returns-else-meet_block-2
meet_form-returns-else-meet_block-2 t c ts l =
    rw (if_form _ _ _ _ c.in-If.is) (meets_after_choice c.args.hunt c.args.at (expr_rows (program_of c.args.p.now) (instance (program_of c.args.p.now) (func_of c.args.f.now) c.args.hunt.origin) (expr_of c.in-If.cond)) (flow_of_block (program_of c.args.p.now) (instance (program_of c.args.p.now) (func_of c.args.f.now) c.args.hunt.origin) ts (block_of c.in-If.then_block)) (flow_of_block (program_of c.args.p.now) (instance (program_of c.args.p.now) (func_of c.args.f.now) c.args.hunt.origin) ts (block_of c.in-If.else_block)) c.args.pair c.past_expr-following.result c.take.result c.take-in-If.result c.meet_block.result c.meet_block-in-If.result c.past_expr-following.ensures c.take.ensures (c.meet_block.ensures ts l) c.if-meet_block.false c.take-in-If.ensures (c.meet_block-in-If.ensures ts l) (out-Block c.in-If.else_block).end c.meet_after.result (end_is (program_of c.args.p.now) (instance (program_of c.args.p.now) (func_of c.args.f.now) c.args.hunt.origin) ts c.in-If.else_block) c.if-meet_block-2.false (rw (if_form _ _ _ _ c.in-If.is) at (c.meet_after.ensures ts l)))

pub meet_form-returns-in_default : goal.meet_form-returns-in_default
meet_form-returns-in_default t c ts l = c.meet_step.ensures (program_of c.args.p.now) (instance (program_of c.args.p.now) (func_of c.args.f.now) c.args.hunt.origin) ts c.args.hunt c.args.at c.args.pair

pub meet_loop-returns-in_default : goal.meet_loop-returns-in_default
meet_loop-returns-in_default t c = both_turning_last c.args.hunt c.args.at (expr_rows (program_of c.args.p.now) (instance (program_of c.args.p.now) (func_of c.args.f.now) c.args.hunt.origin) (expr_of c.args.cond.now)) (flow_of_block (program_of c.args.p.now) (instance (program_of c.args.p.now) (func_of c.args.f.now) c.args.hunt.origin) [] (block_of c.args.body.now)) c.args.pair c.loop-here.here c.meet_turns.result c.go_turn-turn.result c.loop-here.invariant c.meet_turns.ensures c.if-meet_turns.false c.go_turn-turn.ensures.along c.in_default.not-Continue

pub meet_turns-returns-in_default : goal.meet_turns-returns-in_default
meet_turns-returns-in_default t c = turning_last c.args.hunt c.args.at (expr_rows (program_of c.args.p.now) (instance (program_of c.args.p.now) (func_of c.args.f.now) c.args.hunt.origin) (expr_of c.args.cond.now)) (flow_of_block (program_of c.args.p.now) (instance (program_of c.args.p.now) (func_of c.args.f.now) c.args.hunt.origin) [] (block_of c.args.body.now)) c.args.pair c.loop-here.here c.meet_turn.result c.go_turn-turn.result c.loop-here.invariant c.meet_turn.ensures c.if-meet_turn.false c.go_turn-turn.ensures.along c.in_default.not-Continue
