use Rattle.std.proofs.Common.{◌<◌, ◌+◌, ◌∷◌, [], length, arith, ap, ◌∙◌, Some}
use Rattle.vlt_core.specs.Flow.{size, size_block, size_stmts, size_arms}
use Rattle.vlt_core.specs.HeldView.{toks_of}
use Rattle.vlt_rows.specs.declared.tree.FlowBlock.{out-FlowBlock}
use Rattle.vlt_rows.specs.declared.tree.FlowArm.{out-FlowArm}
use Rattle.vlt_rows.specs.FlowView.{rows_view, block_view, flow_view, stmts_view, arms_view}
use Rattle.vlt_rows.proofs.Views.{arm_parts, block_parts, step_form, if_form, while_form, switch_form, scope_form, focus_form, return_form, jump_form}
use Rattle.vlt_keyset.specs.Held.{map_of}
use Rattle.cert_check.specs.Notes.{annotation_of}
use Rattle.vlt_flow.specs.Walks.{maybe_map}
use Rattle.cert_check.specs.Tests.{below_test}
use Rattle.cert_check.specs.Walks.{turn_tests}
use Rattle.cert_check.proofs.Sequences.{stopped, first_here}
use Rattle.cert_check.proofs.Rowing.{split_at}
use Rattle.cert_check.proofs.Leading.{led_comes, led_stops, way_tested, choose_first, choose_second, choose_tested, turn_exit, turn_body, turn_held, loop_turn, loop_held, arm_way, arm_held, block_tested, scope_tested, loop_tested, focus_body, focus_tested, switch_arms, switch_tested, on_none, on_some}
use Rattle.cert_check.proofs.Listing.{listing_first, listing_small, listing_less, listing_more, listing_stops, listing_ends, arming_first, arming_small, arming_less, arming_more, arming_stops, arming_ends}
use Rattle.cert_check.proofs.walking.+testing.Goals as goal

-- ---- ways

pub test_way-test_block-requires : goal.test_way-test_block-requires
test_way-test_block-requires t c = (omega (arith, c.decreases), (c.requires.order, c.requires.few))

pub test_way-returns-in_err-walked : goal.test_way-returns-in_err-walked
test_way-returns-in_err-walked t c = stopped _ _ _ _ _ c.from_residual.ensures.1 c.in_err-walked.was c.test_block.ensures (first_here _ _)

pub test_way-returns : goal.test_way-returns
test_way-returns t c = way_tested _ _ _ _ _ _ _ _ _ c.in_ok-walked.ensures.outcome.0 c.in_ok-walked.ensures.outcome.1 c.test_end.ensures

-- ---- choices

pub test_if-test_way-requires : goal.test_if-test_way-requires
test_if-test_way-requires t c = (omega (arith, c.decreases), (c.requires.order, omega (arith, c.requires.few)))

pub test_if-test_way-requires-2 : goal.test_if-test_way-requires-2
test_if-test_way-requires-2 t c = (omega (arith, c.decreases), (c.requires.order, omega (arith, c.requires.few, c.in_ok-first.ensures.outcome.1.at)))

pub test_if-returns-in_err-inside : goal.test_if-returns-in_err-inside
test_if-returns-in_err-inside t c = stopped _ _ _ _ _ c.from_residual.ensures.1 c.in_err-inside.was c.pass.ensures (first_here _ _)

pub test_if-returns-in_err-first : goal.test_if-returns-in_err-first
test_if-returns-in_err-first t c =
    let p = c.in_ok-inside.ensures.outcome in
    stopped _ _ _ _ _ c.from_residual-in_err-first.ensures.1 c.in_err-first.was c.test_way.ensures (choose_first (annotation_of c.args.given.now) c.args.l c.args.n (map_of c.args.held) (rows_view c.args.rows.now) (block_view c.args.then_block.now) (block_view c.args.else_block.now) _ p.0 p.1)

pub test_if-returns-in_err-second : goal.test_if-returns-in_err-second
test_if-returns-in_err-second t c =
    let p = c.in_ok-inside.ensures.outcome in
    let w = c.in_ok-first.ensures.outcome in
    stopped _ _ _ _ _ c.from_residual-in_err-second.ensures.1 c.in_err-second.was c.test_way-2.ensures (choose_second (annotation_of c.args.given.now) c.args.l c.args.n (map_of c.args.held) (rows_view c.args.rows.now) (block_view c.args.then_block.now) (block_view c.args.else_block.now) _ _ _ p.0 p.1 (ap map_of c.in_ok-other.ensures ∙ p.1) w.1.at w.0)

pub test_if-returns : goal.test_if-returns
test_if-returns t c =
    let p = c.in_ok-inside.ensures.outcome in
    let w = c.in_ok-first.ensures.outcome in
    let v = c.in_ok-second.ensures.outcome in
    choose_tested _ _ _ _ _ _ _ _ _ _ _ _ _ p.0 p.1 (ap map_of c.in_ok-other.ensures ∙ p.1) w.1.at w.0 v.0 (rw (w.1.passes, v.1.passes) at c.either.ensures) v.1.at c.following.ensures

-- ---- loops

pub test_turn-test_way-requires : goal.test_turn-test_way-requires
test_turn-test_way-requires t c = (omega (arith, c.decreases), (c.requires.order, c.requires.few))

pub test_turn-returns-in_err-inside : goal.test_turn-returns-in_err-inside
test_turn-returns-in_err-inside t c = stopped _ _ _ _ _ c.from_residual.ensures.1 c.in_err-inside.was c.pass.ensures (first_here _ _)

pub test_turn-returns-in_err-test_below : goal.test_turn-returns-in_err-test_below
test_turn-returns-in_err-test_below t c =
    let p = c.in_ok-inside.ensures.outcome in
    stopped _ _ _ _ _ c.from_residual-in_err-test_below.ensures.1 c.in_err-test_below.was c.test_below.ensures (turn_exit (annotation_of c.args.given.now) c.args.n (map_of c.args.head) (rows_view c.args.rows.now) (block_view c.args.body.now) _ p.0 p.1)

pub test_turn-returns-in_err-way : goal.test_turn-returns-in_err-way
test_turn-returns-in_err-way t c =
    let p = c.in_ok-inside.ensures.outcome in
    stopped _ _ _ _ _ c.from_residual-in_err-way.ensures.1 c.in_err-way.was c.test_way.ensures (turn_body (annotation_of c.args.given.now) c.args.n (map_of c.args.head) (rows_view c.args.rows.now) (block_view c.args.body.now) _ p.0 p.1 c.in_ok-test_below.ensures.outcome.0)

pub test_turn-returns : goal.test_turn-returns
test_turn-returns t c =
    let p = c.in_ok-inside.ensures.outcome in
    let w = c.in_ok-way.ensures.outcome in
    record { outcome = (turn_held (annotation_of c.args.given.now) c.args.n (map_of c.args.head) (rows_view c.args.rows.now) (block_view c.args.body.now) _ p.0 p.1 c.in_ok-test_below.ensures.outcome.0 w.0, w.1.at) }

pub test_loop-test_turn-requires : goal.test_loop-test_turn-requires
test_loop-test_turn-requires t c = (omega (arith, c.decreases), (c.requires.order, c.requires.few))

pub test_loop-returns-in_err-head : goal.test_loop-returns-in_err-head
test_loop-returns-in_err-head t c = stopped _ _ _ _ _ c.from_residual.ensures.1 c.in_err-head.was c.enter.ensures (first_here (below_test c.args.n (map_of c.args.held) ((annotation_of c.args.given.now).around c.args.n) ∷ []) (turn_tests (annotation_of c.args.given.now) c.args.n ((annotation_of c.args.given.now).around c.args.n) (rows_view c.args.rows.now) (block_view c.args.body.now)))

pub test_loop-returns-in_err-at : goal.test_loop-returns-in_err-at
test_loop-returns-in_err-at t c =
    let p = c.in_ok-head.ensures.outcome in
    stopped _ _ _ _ _ c.from_residual-in_err-at.ensures.1 c.in_err-at.was c.test_turn.ensures (loop_turn (annotation_of c.args.given.now) c.args.l c.args.n (map_of c.args.held) (rows_view c.args.rows.now) (block_view c.args.body.now) _ p.0 p.1)

pub test_loop-returns-in_err-exit : goal.test_loop-returns-in_err-exit
test_loop-returns-in_err-exit t c = stopped _ _ _ _ _ c.from_residual-in_err-exit.ensures.1 c.in_err-exit.was c.map_of_note.ensures (λ z f. absurd f)

pub test_loop-returns : goal.test_loop-returns
test_loop-returns t c =
    let p = c.in_ok-head.ensures.outcome in
    let w = c.in_ok-at.ensures.outcome in
    record { outcome = (loop_held (annotation_of c.args.given.now) c.args.l c.args.n (map_of c.args.held) (rows_view c.args.rows.now) (block_view c.args.body.now) _ p.0 p.1 w.0, led_comes _ _ _ _ c.comes.ensures.held (c.comes.ensures.at ∙ w.1) (ap Some c.in_ok-exit.ensures.outcome.1)) }

-- ---- arms

pub test_arm-test_way-requires : goal.test_arm-test_way-requires
test_arm-test_way-requires t c =
    let e = arm_parts c.args.arm.now in
    (omega (arith, c.decreases, ap (λ x. size_block x.1) e), (c.requires.order, omega (arith, c.requires.few, ap (λ x. size_block x.1) e)))

pub test_arm-returns-in_err-inside : goal.test_arm-returns-in_err-inside
test_arm-returns-in_err-inside t c =
    let told = rw (c.as_slice.ensures, c.in_ok-own.ensures) at c.pass.ensures in
    rw (arm_parts c.args.arm.now) (stopped _ _ _ _ _ c.from_residual-in_err-inside.ensures.1 c.in_err-inside.was told (first_here _ _))

pub test_arm-returns-in_err-next : goal.test_arm-returns-in_err-next
test_arm-returns-in_err-next t c =
    let p = rw (c.as_slice.ensures, c.in_ok-own.ensures) at c.in_ok-inside.ensures.outcome in
    rw (arm_parts c.args.arm.now) (stopped _ _ _ _ _ c.from_residual-in_err-next.ensures.1 c.in_err-next.was c.test_way.ensures (arm_way (annotation_of c.args.given.now) c.args.l c.args.n c.args.way.at (map_of c.args.held.now) (rows_view (out-FlowArm c.args.arm.now).rows) (block_view (out-FlowArm c.args.arm.now).body) _ p.0 p.1))

pub test_arm-returns : goal.test_arm-returns
test_arm-returns t c =
    let p = rw (c.as_slice.ensures, c.in_ok-own.ensures) at c.in_ok-inside.ensures.outcome in
    let w = c.in_ok-next.ensures.outcome in
    rw (arm_parts c.args.arm.now) (record { outcome = (arm_held (annotation_of c.args.given.now) c.args.l c.args.n c.args.way.at (map_of c.args.held.now) (rows_view (out-FlowArm c.args.arm.now).rows) (block_view (out-FlowArm c.args.arm.now).body) _ p.0 p.1 w.0, record { passes = rw w.1.passes at c.either.ensures; at = w.1.at }) })

pub test_arms-loop-arm-init : goal.test_arms-loop-arm-init
test_arms-loop-arm-init t c = arming_first _ _ _ _ _

pub test_arms-loop-arm-preserved : goal.test_arms-loop-arm-preserved
test_arms-loop-arm-preserved t c =
    let lt : c.loop-arm.arm-index < length c.args.arms.now = omega arith in
    arming_more _ _ _ _ _ _ _ _ c.arm-item.result _ (split_at _ _ _ lt c.arm-item.is) c.loop-arm.invariant c.in_ok-way.ensures.outcome.0 c.in_ok-way.ensures.outcome.1

pub test_arms-test_arm-requires : goal.test_arms-test_arm-requires
test_arms-test_arm-requires t c =
    let lt : c.loop-arm.arm-index < length c.args.arms.now = omega arith in
    let split = split_at _ _ _ lt c.arm-item.is in
    (omega (arith, c.decreases, arming_less _ _ _ _ _ _ _ _ c.arm-item.result split c.loop-arm.invariant), (c.requires.order, omega (arith, c.requires.few, arming_small _ _ _ _ _ _ _ _ c.arm-item.result split c.loop-arm.invariant)))

pub test_arms-returns-in_err-way : goal.test_arms-returns-in_err-way
test_arms-returns-in_err-way t c =
    let lt : c.loop-arm.arm-index < length c.args.arms.now = omega arith in
    stopped _ _ _ _ _ c.from_residual.ensures.1 c.in_err-way.was c.test_arm.ensures (arming_stops _ _ _ _ _ _ _ _ c.arm-item.result (split_at _ _ _ lt c.arm-item.is) c.loop-arm.invariant)

pub test_arms-returns : goal.test_arms-returns
test_arms-returns t c = record { outcome = arming_ends _ _ _ _ _ _ _ (omega (arith, c.loop-arm-test.false)) c.loop-arm.invariant }

-- ---- lists and blocks

pub test_list-loop-s-init : goal.test_list-loop-s-init
test_list-loop-s-init t c = listing_first _ _ _ _ _ c.comes-flow.result (ap maybe_map c.comes-flow.ensures.held) c.comes-flow.ensures.at

pub test_list-loop-s-preserved : goal.test_list-loop-s-preserved
test_list-loop-s-preserved t c =
    let lt : c.loop-s.s-index < length c.args.stmts.now = omega arith in
    listing_more _ _ _ _ _ _ _ _ c.s-item.result _ (split_at _ _ _ lt c.s-item.is) c.loop-s.invariant c.in_ok-flow.ensures.outcome.0 c.in_ok-flow.ensures.outcome.1

pub test_list-test_on-requires : goal.test_list-test_on-requires
test_list-test_on-requires t c =
    let lt : c.loop-s.s-index < length c.args.stmts.now = omega arith in
    let split = split_at _ _ _ lt c.s-item.is in
    (omega (arith, c.decreases, listing_less _ _ _ _ _ _ _ _ c.s-item.result split c.loop-s.invariant), (c.requires.order, omega (arith, c.requires.few, listing_small _ _ _ _ _ _ _ _ c.s-item.result split c.loop-s.invariant)))

pub test_list-returns-in_err-flow : goal.test_list-returns-in_err-flow
test_list-returns-in_err-flow t c =
    let lt : c.loop-s.s-index < length c.args.stmts.now = omega arith in
    stopped _ _ _ _ _ c.from_residual.ensures.1 c.in_err-flow.was c.test_on.ensures (listing_stops _ _ _ _ _ _ _ _ c.s-item.result (split_at _ _ _ lt c.s-item.is) c.loop-s.invariant)

pub test_list-returns : goal.test_list-returns
test_list-returns t c = record { outcome = listing_ends _ _ _ _ _ _ _ (omega (arith, c.loop-s-test.false)) c.loop-s.invariant }

pub test_block-test_list-requires : goal.test_block-test_list-requires
test_block-test_list-requires t c =
    let few = rw (block_parts c.args.block.now) at c.requires.few in
    (omega (arith, c.decreases, c.as_slice.ensures, ap size_block (block_parts c.args.block.now), ap (λ l. size_stmts (stmts_view l)) c.as_slice.ensures), (c.requires.order, rw c.as_slice.ensures few))

pub test_block-returns-in_err-walked : goal.test_block-returns-in_err-walked
test_block-returns-in_err-walked t c =
    let told = rw c.as_slice.ensures at c.test_list.ensures in
    rw (block_parts c.args.block.now) (stopped _ _ _ _ _ c.from_residual.ensures.1 c.in_err-walked.was told (first_here _ _))

pub test_block-returns : goal.test_block-returns
test_block-returns t c =
    let w = rw c.as_slice.ensures at c.in_ok-walked.ensures.outcome in
    let q = rw c.as_slice-2.ensures at c.leave_gone.ensures in
    rw (block_parts c.args.block.now) (block_tested _ _ _ _ _ _ (stmts_view (out-FlowBlock c.args.block.now).stmts) (toks_of (out-FlowBlock c.args.block.now).bound) (out-FlowBlock c.args.block.now).end _ w.0 w.1 q)

-- ---- statements

pub test_on-returns-in-Some : goal.test_on-returns-in-Some
test_on-returns-in-Some t c = on_some _ (annotation_of c.args.given.now) c.args.l c.args.flow.at _ (flow_view c.args.form.now) _ _ (ap maybe_map c.in-Some.is) c.test_form.ensures

pub test_on-returns-in-Ok : goal.test_on-returns-in-Ok
test_on-returns-in-Ok t c = on_none _ (annotation_of c.args.given.now) c.args.l c.args.flow.at _ (flow_view c.args.form.now) _ (ap maybe_map c.in-None.is) (record { outcome = (tt, led_stops _ _ c.stops.ensures.held (c.stops.ensures.at ∙ ap (λ m. c.args.flow.at + m) c.in-Ok.ensures.count)) })

pub test_form-returns-in_err-held-in-Step : goal.test_form-returns-in_err-held-in-Step
test_form-returns-in_err-held-in-Step t c =
    let told = rw c.as_slice.ensures at c.pass.ensures in
    rw (step_form _ _ c.in-Step.is) (stopped _ _ _ _ _ c.from_residual.ensures.1 c.in_err-held-in-Step.was told (λ z f. f))

pub test_form-returns-in_ok-held-in-Step : goal.test_form-returns-in_ok-held-in-Step
test_form-returns-in_ok-held-in-Step t c =
    let p = rw c.as_slice.ensures at c.in_ok-held-in-Step.ensures.outcome in
    rw (step_form _ _ c.in-Step.is) (record { outcome = (p.0, led_comes _ _ _ _ c.comes.ensures.held c.comes.ensures.at (ap Some p.1)) })

pub test_form-test_loop-requires : goal.test_form-test_loop-requires
test_form-test_loop-requires t c =
    let e = ap size (while_form _ _ _ c.in-While.is) in
    (omega (arith, c.decreases, e), (c.requires.order, omega (arith, c.requires.few, e)))

pub test_form-returns-in-While : goal.test_form-returns-in-While
test_form-returns-in-While t c =
    let told = rw c.as_slice-in-While.ensures at c.test_loop.ensures in
    rw (while_form _ _ _ c.in-While.is) (loop_tested _ (annotation_of c.args.given.now) c.args.l c.args.n (map_of c.args.held) (rows_view c.in-While.rows) (block_view c.in-While.body) told)

pub test_form-test_arms-requires : goal.test_form-test_arms-requires
test_form-test_arms-requires t c =
    let e = ap size (switch_form _ _ _ _ c.in-Switch.is) in
    let s = ap (λ l. size_arms (arms_view l)) c.as_slice-in-Switch-2.ensures in
    (omega (arith, c.decreases, e, s), (c.requires.order, omega (arith, c.requires.few, e, s)))

pub test_form-returns-in_err-inside-in-Switch : goal.test_form-returns-in_err-inside-in-Switch
test_form-returns-in_err-inside-in-Switch t c =
    let told = rw c.as_slice-in-Switch.ensures at c.pass-in-Switch.ensures in
    rw (switch_form _ _ _ _ c.in-Switch.is) (stopped _ _ _ _ _ c.from_residual-in_err-inside-in-Switch.ensures.1 c.in_err-inside-in-Switch.was told (first_here _ _))

pub test_form-returns-in_err-way-in-Switch : goal.test_form-returns-in_err-way-in-Switch
test_form-returns-in_err-way-in-Switch t c =
    let p = rw c.as_slice-in-Switch.ensures at c.in_ok-inside-in-Switch.ensures.outcome in
    let told = rw c.as_slice-in-Switch-2.ensures at c.test_arms.ensures in
    rw (switch_form _ _ _ _ c.in-Switch.is) (stopped _ _ _ _ _ c.from_residual-in_err-way-in-Switch.ensures.1 c.in_err-way-in-Switch.was told (switch_arms (annotation_of c.args.given.now) c.args.l c.args.n (map_of c.args.held) (rows_view c.in-Switch.rows) (arms_view c.in-Switch.arms) c.in-Switch.end _ p.0 p.1))

pub test_form-returns-in_ok-way-in-Switch : goal.test_form-returns-in_ok-way-in-Switch
test_form-returns-in_ok-way-in-Switch t c =
    let p = rw c.as_slice-in-Switch.ensures at c.in_ok-inside-in-Switch.ensures.outcome in
    let w = rw c.as_slice-in-Switch-2.ensures at c.in_ok-way-in-Switch.ensures.outcome in
    rw (switch_form _ _ _ _ c.in-Switch.is) (switch_tested (annotation_of c.args.given.now) c.args.l c.args.n (map_of c.args.held) (rows_view c.in-Switch.rows) (arms_view c.in-Switch.arms) c.in-Switch.end _ p.0 p.1 _ _ w.0 w.1 c.following.ensures)

pub test_form-test_block-requires : goal.test_form-test_block-requires
test_form-test_block-requires t c =
    let e = ap size (scope_form _ _ c.in-Scope.is) in
    (omega (arith, c.decreases, e), (c.requires.order, omega (arith, c.requires.few, e)))

pub test_form-returns-in-Scope : goal.test_form-returns-in-Scope
test_form-returns-in-Scope t c = rw (scope_form _ _ c.in-Scope.is) (scope_tested _ (annotation_of c.args.given.now) c.args.l c.args.n (map_of c.args.held) (block_view c.in-Scope.body) c.test_block.ensures)

pub test_form-test_block-requires-in-Focus : goal.test_form-test_block-requires-in-Focus
test_form-test_block-requires-in-Focus t c =
    let e = ap size (focus_form _ _ _ _ c.in-Focus.is) in
    (omega (arith, c.decreases, e), (c.requires.order, omega (arith, c.requires.few, e)))

pub test_form-returns-in_err-inside-in-Focus : goal.test_form-returns-in_err-inside-in-Focus
test_form-returns-in_err-inside-in-Focus t c =
    let told = rw c.as_slice-in-Focus.ensures at c.pass-in-Focus.ensures in
    rw (focus_form _ _ _ _ c.in-Focus.is) (stopped _ _ _ _ _ c.from_residual-in_err-inside-in-Focus.ensures.1 c.in_err-inside-in-Focus.was told (first_here _ _))

pub test_form-returns-in_err-walked-in-Focus : goal.test_form-returns-in_err-walked-in-Focus
test_form-returns-in_err-walked-in-Focus t c =
    let p = rw c.as_slice-in-Focus.ensures at c.in_ok-inside-in-Focus.ensures.outcome in
    rw (focus_form _ _ _ _ c.in-Focus.is) (stopped _ _ _ _ _ c.from_residual-in_err-walked-in-Focus.ensures.1 c.in_err-walked-in-Focus.was c.test_block-in-Focus.ensures (focus_body (annotation_of c.args.given.now) c.args.l c.args.n (map_of c.args.held) (rows_view c.in-Focus.rows) (block_view c.in-Focus.body) (rows_view c.in-Focus.after) _ p.0 p.1))

pub test_form-returns-in_ok-walked-in-Focus : goal.test_form-returns-in_ok-walked-in-Focus
test_form-returns-in_ok-walked-in-Focus t c =
    let p = rw c.as_slice-in-Focus.ensures at c.in_ok-inside-in-Focus.ensures.outcome in
    let w = c.in_ok-walked-in-Focus.ensures.outcome in
    let q = rw c.as_slice-in-Focus-2.ensures at c.leave_rows.ensures in
    rw (focus_form _ _ _ _ c.in-Focus.is) (focus_tested (annotation_of c.args.given.now) c.args.l c.args.n (map_of c.args.held) (rows_view c.in-Focus.rows) (block_view c.in-Focus.body) (rows_view c.in-Focus.after) _ p.0 p.1 _ _ w.0 w.1 q)

pub test_form-returns-in_err-_end-in-Return : goal.test_form-returns-in_err-_end-in-Return
test_form-returns-in_err-_end-in-Return t c =
    let told = rw c.as_slice-in-Return.ensures at c.pass-in-Return.ensures in
    rw (return_form _ _ c.in-Return.is) (stopped _ _ _ _ _ c.from_residual-in_err-_end-in-Return.ensures.1 c.in_err-_end-in-Return.was told (λ z f. f))

pub test_form-returns-in_ok-_end-in-Return : goal.test_form-returns-in_ok-_end-in-Return
test_form-returns-in_ok-_end-in-Return t c =
    let p = rw c.as_slice-in-Return.ensures at c.in_ok-_end-in-Return.ensures.outcome in
    rw (return_form _ _ c.in-Return.is) (record { outcome = (p.0, led_stops _ _ c.stops.ensures.held c.stops.ensures.at) })

pub test_form-returns-in_err-jump-in-Jump : goal.test_form-returns-in_err-jump-in-Jump
test_form-returns-in_err-jump-in-Jump t c =
    let told = rw c.as_slice-in-Jump.ensures at c.jump.ensures in
    rw (jump_form _ _ _ c.in-Jump.is) (stopped _ _ _ _ _ c.from_residual-in_err-jump-in-Jump.ensures.1 c.in_err-jump-in-Jump.was told (λ z f. f))

pub test_form-returns-in_ok-jump-in-Jump : goal.test_form-returns-in_ok-jump-in-Jump
test_form-returns-in_ok-jump-in-Jump t c =
    let p = rw c.as_slice-in-Jump.ensures at c.in_ok-jump-in-Jump.ensures.outcome in
    rw (jump_form _ _ _ c.in-Jump.is) (record { outcome = (p.0, led_stops _ _ c.stops-in-Jump.ensures.held c.stops-in-Jump.ensures.at) })

pub test_form-returns-in-If : goal.test_form-returns-in-If
test_form-returns-in-If t c =
    let told = rw c.as_slice-rows.ensures at c.test_if.ensures in
    rw (if_form _ _ _ _ c.in-If.is) told
