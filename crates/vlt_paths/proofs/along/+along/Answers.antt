use Rattle.std.proofs.Common.{sym, refl, []}
use Rattle.vlt_core.proofs.Views.{if_form, while_form, switch_form, focus_form, scope_form, jump_form}
use Rattle.vlt_core.specs.Instances.{instance}
use Rattle.vlt_core.specs.View.{program_of, func_of, block_of, expr_of}
use Rattle.vlt_core.specs.Bodies.{flow_of_block}
use Rattle.vlt_core.specs.Rows.{expr_rows}
use Rattle.vlt_core.specs.Witness.{then_arm, else_arm}
use Rattle.vlt_paths.proofs.Choosing.{made_choice, then_goes, else_goes, neither_goes, turn_goes, turn_fewer, exit_goes, case_goes, scope_goes, to_end, before_end, arm_goes, end_is, focus_goes, focus_lost_goes, loop_ends, no_case_goes}
use Rattle.vlt_paths.proofs.Walking.{listing_more, listing_left, listing_ends, looping_first, looping_more}
use Rattle.vlt_paths.proofs.along.+along.Goals as goal

pub go_form-returns-in-While : goal.go_form-returns-in-While
go_form-returns-in-While t c ts l = rw (while_form _ _ _ c.in-While.is) c.go_while.ensures

pub go_form-returns-in-Switch : goal.go_form-returns-in-Switch
go_form-returns-in-Switch t c ts l = rw (switch_form _ _ _ _ c.in-Switch.is) ((rw c.as_slice.ensures at c.go_switch.ensures) c.in-Switch.end ts l)

pub go_form-returns-in-Focus : goal.go_form-returns-in-Focus
go_form-returns-in-Focus t c ts l = rw (focus_form _ _ _ _ c.in-Focus.is) (c.go_focus.ensures ts l)

pub go_form-returns-in-Scope : goal.go_form-returns-in-Scope
go_form-returns-in-Scope t c ts l = rw (scope_form _ _ c.in-Scope.is) (scope_goes c.args.hunt _ c.args.at c.args.point c.go_block-in-Scope.result (c.go_block-in-Scope.ensures ts l))

pub go_form-returns-in-Jump : goal.go_form-returns-in-Jump
go_form-returns-in-Jump t c ts l = rw (jump_form _ _ c.in-Jump.is) (c.go_jump.ensures ts l)

pub go_form-returns-in-None : goal.go_form-returns-in-None
go_form-returns-in-None t c ts l = rw (if_form _ _ _ _ c.in-If.is)
    (neither_goes c.args.hunt c.args.at _ c.args.point c.past_expr-following.result c.past_expr-following.ensures _ _ (λ r e. c.choose.ensures.none c.in-None.is then_arm r e) (λ r e. c.choose.ensures.none c.in-None.is else_arm r e))

pub go_form-returns-in-Then : goal.go_form-returns-in-Then
go_form-returns-in-Then t c ts l = rw (if_form _ _ _ _ c.in-If.is)
    (then_goes c.args.hunt c.args.at _ c.args.point c.past_expr-following.result c.past_expr-following.ensures c.in-Some.chosen (made_choice c.args.at c.past_expr-following.result c.choose.result c.in-Some.chosen c.in-Some.is c.choose.ensures.comes c.choose.ensures.met c.choose.ensures.some) _ _ c.go_block.result c.in-Then.is (c.go_block.ensures ts l))

pub go_form-returns-in-Else : goal.go_form-returns-in-Else
go_form-returns-in-Else t c ts l = rw (if_form _ _ _ _ c.in-If.is)
    (else_goes c.args.hunt c.args.at _ c.args.point c.past_expr-following.result c.past_expr-following.ensures c.in-Some.chosen (made_choice c.args.at c.past_expr-following.result c.choose.result c.in-Some.chosen c.in-Some.is c.choose.ensures.comes c.choose.ensures.met c.choose.ensures.some) _ _ c.go_block-in-Else.result c.in-Else.is (c.go_block-in-Else.ensures ts l))

pub go_form-returns-in_default : goal.go_form-returns-in_default
go_form-returns-in_default t c ts l = c.go_step.ensures ts

pub go_block-returns-in-Next : goal.go_block-returns-in-Next
go_block-returns-in-Next t c ts l =
    to_end (program_of c.args.p.now) (instance (program_of c.args.p.now) (func_of c.args.f.now) c.args.hunt.origin) c.args.hunt ts c.args.left c.is_bound-inside.result c.args.block.now c.args.point c.go_stmts-end.result c.as_slice-2.result.now c.as_slice.result.now c.as_slice-2.ensures c.as_slice.ensures c.is_bound-inside.ensures l c.go_stmts-end.ensures
    c.past_gone.result c.as_slice-in-Next.result.now c.as_slice-in-Next.ensures c.in-Next.is c.past_gone.ensures

pub go_block-returns-in_default : goal.go_block-returns-in_default
go_block-returns-in_default t c ts l =
    before_end (program_of c.args.p.now) (instance (program_of c.args.p.now) (func_of c.args.f.now) c.args.hunt.origin) c.args.hunt ts c.args.left c.is_bound-inside.result c.args.block.now c.args.point c.go_stmts-end.result c.as_slice-2.result.now c.as_slice.result.now c.as_slice-2.ensures c.as_slice.ensures c.is_bound-inside.ensures l c.go_stmts-end.ensures
    c.in_default.not-Next

pub go_focus-returns-in-Next : goal.go_focus-returns-in-Next
go_focus-returns-in-Next t c ts l =
    focus_goes c.args.hunt c.args.at _ _ _ (flow_of_block (program_of c.args.p.now) (instance (program_of c.args.p.now) (func_of c.args.f.now) c.args.hunt.origin) ts (block_of c.args.body.now)) c.args.point c.past_focus-inside.result c.go_block-end.result c.past_focus_end.result
    (end_is (program_of c.args.p.now) (instance (program_of c.args.p.now) (func_of c.args.f.now) c.args.hunt.origin) ts c.args.body.now) c.past_focus-inside.ensures (c.go_block-end.ensures ts l) c.in-Next.is c.past_focus_end.ensures

pub go_focus-returns-in_default : goal.go_focus-returns-in_default
go_focus-returns-in_default t c ts l =
    focus_lost_goes c.args.hunt c.args.at _ _ (flow_of_block (program_of c.args.p.now) (instance (program_of c.args.p.now) (func_of c.args.f.now) c.args.hunt.origin) ts (block_of c.args.body.now)) c.args.point c.past_focus-inside.result c.go_block-end.result
    c.past_focus-inside.ensures (c.go_block-end.ensures ts l) c.in_default.not-Next

pub go_stmts-returns : goal.go_stmts-returns
go_stmts-returns t c ts l = listing_ends (program_of c.args.p.now) (instance (program_of c.args.p.now) (func_of c.args.f.now) c.args.hunt.origin) c.args.hunt c.args.left c.args.stmts.now c.args.point c.loop-s.s-index c.loop-s.here c.loop-s-test.false c.loop-s.invariant ts l

pub go_stmts-returns-in_default : goal.go_stmts-returns-in_default
go_stmts-returns-in_default t c ts l =
    listing_left (program_of c.args.p.now) (instance (program_of c.args.p.now) (func_of c.args.f.now) c.args.hunt.origin) c.args.hunt c.args.left c.args.stmts.now c.args.point c.loop-s.s-index c.loop-s.here c.s-item.result c.go_form-following.result c.loop-s-test.true c.s-item.is c.loop-s.invariant
    c.go_form-following.ensures c.in_default.not-Next ts l

pub go_stmts-loop-s-preserved : goal.go_stmts-loop-s-preserved
go_stmts-loop-s-preserved t c =
    listing_more (program_of c.args.p.now) (instance (program_of c.args.p.now) (func_of c.args.f.now) c.args.hunt.origin) c.args.hunt c.args.left c.args.stmts.now c.args.point c.loop-s.s-index c.loop-s.here c.s-item.result c.go_form-following.result c.loop-s-test.true c.s-item.is c.loop-s.invariant
    c.go_form-following.ensures c.in-Next.is

pub go_switch-returns-in-None-arm_at : goal.go_switch-returns-in-None-arm_at
go_switch-returns-in-None-arm_at t c end ts l =
    no_case_goes (program_of c.args.p.now) (instance (program_of c.args.p.now) (func_of c.args.f.now) c.args.hunt.origin) c.args.hunt c.args.at _ c.args.point c.past_switch-following.result c.past_switch-following.ensures c.in-Some.chosen
    (made_choice c.args.at c.past_switch-following.result c.choose.result c.in-Some.chosen c.in-Some.is c.choose.ensures.comes c.choose.ensures.met c.choose.ensures.some)
    c.in-Case.position c.in-Case.is ts c.args.v.0 c.args.arms.now end (sym (rw c.in-None-arm_at.is at c.arm_at.ensures))

pub go_switch-returns-in-Some-arm_at : goal.go_switch-returns-in-Some-arm_at
go_switch-returns-in-Some-arm_at t c end ts l =
    case_goes c.args.hunt c.args.at _ c.args.point c.past_switch-following.result c.past_switch-following.ensures c.in-Some.chosen
    (made_choice c.args.at c.past_switch-following.result c.choose.result c.in-Some.chosen c.in-Some.is c.choose.ensures.comes c.choose.ensures.met c.choose.ensures.some)
    _ end c.in-Case.position c.go_block.result c.in-Case.is
    (arm_goes (program_of c.args.p.now) (instance (program_of c.args.p.now) (func_of c.args.f.now) c.args.hunt.origin) c.args.hunt c.args.at ts c.args.v.0 c.args.arms.now c.in-Case.position c.in-Some-arm_at.arm.now c.in-Some.chosen.point c.past_arm-inside.result c.go_block.result c.as_slice.result.now
    (sym (rw c.in-Some-arm_at.is at c.arm_at.ensures)) c.as_slice.ensures c.past_arm-inside.ensures (c.go_block.ensures ts l))

pub go_turn-returns-in-Exit-clause-along : goal.go_turn-returns-in-Exit-clause-along
go_turn-returns-in-Exit-clause-along t c = exit_goes c.args.hunt c.args.at _ c.args.point c.past_expr-following.result c.past_expr-following.ensures c.in-Some.chosen (made_choice c.args.at c.past_expr-following.result c.choose.result c.in-Some.chosen c.in-Some.is c.choose.ensures.comes c.choose.ensures.met c.choose.ensures.some) (flow_of_block (program_of c.args.p.now) (instance (program_of c.args.p.now) (func_of c.args.f.now) c.args.hunt.origin) [] (block_of c.args.body.now)) c.in-Exit.is

pub go_turn-returns-in-Turn-clause-along : goal.go_turn-returns-in-Turn-clause-along
go_turn-returns-in-Turn-clause-along t c =
    turn_goes c.args.hunt c.args.at _ c.args.point c.past_expr-following.result c.past_expr-following.ensures c.in-Some.chosen (made_choice c.args.at c.past_expr-following.result c.choose.result c.in-Some.chosen c.in-Some.is c.choose.ensures.comes c.choose.ensures.met c.choose.ensures.some) (flow_of_block (program_of c.args.p.now) (instance (program_of c.args.p.now) (func_of c.args.f.now) c.args.hunt.origin) [] (block_of c.args.body.now)) c.go_block.result c.turned.result c.in-Turn.is (c.go_block.ensures [] refl) c.turned.ensures.point c.turned.ensures.out

pub go_turn-returns-in-Turn-clause-fewer : goal.go_turn-returns-in-Turn-clause-fewer
go_turn-returns-in-Turn-clause-fewer t c e =
    rw c.turned.ensures.point (turn_fewer c.args.hunt c.args.at _ c.args.point c.past_expr-following.result c.past_expr-following.ensures c.in-Some.chosen (made_choice c.args.at c.past_expr-following.result c.choose.result c.in-Some.chosen c.in-Some.is c.choose.ensures.comes c.choose.ensures.met c.choose.ensures.some) (flow_of_block (program_of c.args.p.now) (instance (program_of c.args.p.now) (func_of c.args.f.now) c.args.hunt.origin) [] (block_of c.args.body.now)) c.go_block.result c.in-Turn.is (c.go_block.ensures [] refl))

pub go_while-loop-head-init : goal.go_while-loop-head-init
go_while-loop-head-init t c = looping_first (program_of c.args.p.now) (instance (program_of c.args.p.now) (func_of c.args.f.now) c.args.hunt.origin) c.args.hunt (expr_rows (program_of c.args.p.now) (instance (program_of c.args.p.now) (func_of c.args.f.now) c.args.hunt.origin) (expr_of c.args.cond.now)) (flow_of_block (program_of c.args.p.now) (instance (program_of c.args.p.now) (func_of c.args.f.now) c.args.hunt.origin) [] (block_of c.args.body.now)) c.args.at c.args.point

pub go_while-loop-head-preserved : goal.go_while-loop-head-preserved
go_while-loop-head-preserved t c = looping_more (program_of c.args.p.now) (instance (program_of c.args.p.now) (func_of c.args.f.now) c.args.hunt.origin) c.args.hunt (expr_rows (program_of c.args.p.now) (instance (program_of c.args.p.now) (func_of c.args.f.now) c.args.hunt.origin) (expr_of c.args.cond.now)) (flow_of_block (program_of c.args.p.now) (instance (program_of c.args.p.now) (func_of c.args.f.now) c.args.hunt.origin) [] (block_of c.args.body.now)) c.args.at c.args.point c.loop-head.head c.go_turn-turn.result c.loop-head.invariant c.go_turn-turn.ensures.along c.in-Continue.is

pub go_while-returns-in_default : goal.go_while-returns-in_default
go_while-returns-in_default t c = c.loop-head.invariant.all c.go_turn-turn.result (loop_ends c.args.hunt c.args.at (expr_rows (program_of c.args.p.now) (instance (program_of c.args.p.now) (func_of c.args.f.now) c.args.hunt.origin) (expr_of c.args.cond.now)) (flow_of_block (program_of c.args.p.now) (instance (program_of c.args.p.now) (func_of c.args.f.now) c.args.hunt.origin) [] (block_of c.args.body.now)) c.loop-head.head c.go_turn-turn.result c.in_default.not-Continue c.go_turn-turn.ensures.along)
