use Rattle.std.proofs.Common.{◌<◌, ◌≤◌, length, arith, refl, ap, ◌∙◌}
use Rattle.vlt_core.specs.HeldView.{toks_of}
use Rattle.vlt_core.specs.Flow.{choose, loop, switch, size, size_block, size_stmts, size_arms}
use Rattle.vlt_rows.specs.FlowView.{rows_view, block_view, stmts_view, arms_view}
use Rattle.vlt_rows.specs.declared.tree.FlowBlock.{out-FlowBlock}
use Rattle.vlt_rows.proofs.Views.{step_form, if_form, while_form, switch_form, scope_form, focus_form, return_form, jump_form, block_parts}
use Rattle.vlt_faults.proofs.OfFinding.Sweeps.{split_at}
use Rattle.vlt_points.proofs.Parts.{written_point, step_leaves, return_leaves, jump_leaves, scope_leaves, exit_leaves, focus_leaves, block_leaves, room_part, fits_block, fits_at, image_of, step_added, scope_added, focus_added, switch_added, choose_added, return_added, jump_added, loop_added, loop_head, loop_inside, block_added, switch_inside, listing_first, listing_room, listing_fits, listing_small, listing_more, listing_ends, listing_leaves, arming_first, arming_room, arming_fits, arming_small, arming_more, arming_ends}
use Rattle.vlt_points.proofs.points.+points.Goals as goal

-- ---- lists

pub add_list-loop-s-init : goal.add_list-loop-s-init
add_list-loop-s-init t c = listing_first _ _ _ _ _ _ c.requires.fits c.requires.page

pub add_list-add_form-requires : goal.add_list-add_form-requires
add_list-add_form-requires t c =
    let lt : c.loop-s.s-index < length c.args.stmts.now = omega arith in
    let split = split_at _ _ _ lt c.s-item.is in (
      omega (arith, c.decreases, listing_small _ _ _ _ _ _ _ _ _ _ _ c.s-item.result split c.loop-s.invariant),
      (c.requires.text, (c.loop-s.invariant.page, (listing_room _ _ _ _ _ _ _ _ _ _ _ c.s-item.result split c.requires.room c.loop-s.invariant, listing_fits _ _ _ _ _ _ _ _ _ _ _ c.s-item.result split c.loop-s.invariant))),
    )

pub add_list-loop-s-preserved : goal.add_list-loop-s-preserved
add_list-loop-s-preserved t c =
    let lt : c.loop-s.s-index < length c.args.stmts.now = omega arith in
    listing_more _ _ _ _ _ _ _ _ _ _ _ _ _ _ _ c.s-item.result (split_at _ _ _ lt c.s-item.is) c.loop-s.invariant c.in_ok-came.ensures.added c.in_ok-came.ensures.leaves c.both-passes.ensures

pub add_list-returns : goal.add_list-returns
add_list-returns t c =
    let past : length c.args.stmts.now ≤ c.loop-s.s-index = omega (arith, c.loop-s-test.false) in
    record { added = listing_ends _ _ _ _ _ _ _ _ _ _ _ past c.loop-s.invariant _ refl refl; leaves = listing_leaves _ _ _ _ _ _ _ _ _ _ _ past c.loop-s.invariant }

-- ---- arms

pub add_arms-loop-arm-init : goal.add_arms-loop-arm-init
add_arms-loop-arm-init t c = arming_first _ _ _ _ _ _ c.requires.fits c.requires.page

pub add_arms-add_block-requires : goal.add_arms-add_block-requires
add_arms-add_block-requires t c =
    let lt : c.loop-arm.arm-index < length c.args.arms.now = omega arith in
    let split = split_at _ _ _ lt c.arm-item.is in
    let image = rw (c.as_slice.ensures, c.in_ok-way.ensures) at c.pass_rows.ensures.image in (
      omega (arith, c.decreases, arming_small _ _ _ _ _ _ _ _ _ _ c.arm-item.result split c.loop-arm.invariant),
      (c.requires.text, (c.loop-arm.invariant.page, (arming_room _ _ _ _ _ _ _ _ _ _ c.arm-item.result split c.requires.room c.loop-arm.invariant, arming_fits _ _ _ _ _ _ _ _ _ _ _ c.arm-item.result split image c.loop-arm.invariant))),
    )

pub add_arms-loop-arm-preserved : goal.add_arms-loop-arm-preserved
add_arms-loop-arm-preserved t c =
    let lt : c.loop-arm.arm-index < length c.args.arms.now = omega arith in
    let image = rw (c.as_slice.ensures, c.in_ok-way.ensures) at c.pass_rows.ensures.image in
    arming_more _ _ _ _ _ _ _ _ _ _ _ _ _ _ c.arm-item.result (split_at _ _ _ lt c.arm-item.is) c.loop-arm.invariant image c.in_ok-came.ensures.added c.either-passes.ensures

pub add_arms-returns : goal.add_arms-returns
add_arms-returns t c = record { added = arming_ends _ _ _ _ _ _ _ _ _ _ _ (omega (arith, c.loop-arm-test.false)) c.loop-arm.invariant refl refl }

-- ---- blocks

pub add_block-add_list-requires : goal.add_block-add_list-requires
add_block-add_list-requires t c =
    let room = rw (block_parts c.args.block.now) at c.requires.room in
    let fits = rw (block_parts c.args.block.now) at c.requires.fits in (
      omega (arith, c.decreases, ap size_block (block_parts c.args.block.now), ap (λ l. size_stmts (stmts_view l)) c.as_slice.ensures),
      (c.requires.text, (c.requires.page, (rw c.as_slice.ensures room, rw c.as_slice.ensures fits))),
    )

pub add_block-returns : goal.add_block-returns
add_block-returns t c =
    let added = rw c.as_slice.ensures at c.in_ok-came.ensures.added in
    let leaves = rw c.as_slice.ensures at c.in_ok-came.ensures.leaves in
    let gone = rw c.as_slice-2.ensures at c.pass_gone.ensures.image in
    let b = out-FlowBlock c.args.block.now in
    rw (block_parts c.args.block.now) (record {
      added = block_added _ _ (stmts_view b.stmts) (toks_of b.bound) b.end _ _ _ _ _ _ added leaves c.in_ok-add_end.ensures.page c.in_ok-add_end.ensures.end;
      leaves = block_leaves (stmts_view b.stmts) (toks_of b.bound) b.end c.args.m.now c.add_list.new.m _ leaves gone;
    })

-- ---- `if`

pub add_if-add_block-requires : goal.add_if-add_block-requires
add_if-add_block-requires t c =
    let image = rw (← c.in_ok-other.ensures) at c.pass_rows.ensures.image in (
      omega (arith, c.decreases),
      (c.requires.text, (c.in_ok-add.ensures.page, (room_part _ _ _ _ _ c.requires.room (omega arith), fits_block c.args.walk.now.kept.now _ _ _ _ (image_of _ _ _ image) (λ t. (c.requires.fits t).1)))),
    )

pub add_if-add_block-requires-2 : goal.add_if-add_block-requires-2
add_if-add_block-requires-2 t c =
    let first = c.in_ok-first.ensures.added in (
      omega (arith, c.decreases),
      (c.requires.text, (first.page, (room_part _ _ _ _ _ c.requires.room (let a = first.at in omega (arith, a)), fits_at c.args.walk.now.kept.now _ _ _ _ first.at (fits_block c.args.walk.now.kept.now _ _ _ _ (image_of _ _ _ c.pass_rows.ensures.image) (λ t. (c.requires.fits t).2))))),
    )

pub add_if-exit-requires : goal.add_if-exit-requires
add_if-exit-requires t c = let r = c.requires.room in omega (arith, r.fits, r.long)

pub add_if-returns : goal.add_if-returns
add_if-returns t c =
    let point = written_point _ _ _ _ _ c.in_ok-add.ensures.line in
    let first = rw c.in_ok-other.ensures at c.in_ok-first.ensures.added in
    record {
      added = choose_added _ _ _ _ _ _ point _ _ _ _ _ _ _ _ _ c.pass_rows.ensures.image first c.in_ok-second.ensures.added refl c.either.ensures;
      leaves = exit_leaves (choose (rows_view c.args.rows.now) (block_view c.args.then_block.now) (block_view c.args.else_block.now)) c.args.m.now _ c.args.walk.now.kept.now c.args.n (c.in_ok-set.ensures ∙ c.exit.ensures) (λ t. (c.requires.fits t).0);
    }

-- ---- `while`

pub add_while-head-requires : goal.add_while-head-requires
add_while-head-requires t c = let r = c.requires.room in omega (arith, r.fits)

pub add_while-add_block-requires : goal.add_while-add_block-requires
add_while-add_block-requires t c =
    let head = loop_head (rows_view c.args.rows.now) (block_view c.args.body.now) c.args.m.now _ c.args.walk.now.kept.now c.args.n (c.in_ok-set.ensures ∙ c.head.ensures) (λ t. (c.requires.fits t).0) in (
      omega (arith, c.decreases),
      (c.requires.text, (c.in_ok-add.ensures.page, (room_part _ _ _ _ _ c.requires.room (omega arith), fits_block c.args.walk.now.kept.now _ _ _ _ (loop_inside (rows_view c.args.rows.now) (block_view c.args.body.now) c.args.m.now _ _ head c.pass_rows.ensures.image) (λ t. (c.requires.fits t).2)))),
    )

pub add_while-exit-requires : goal.add_while-exit-requires
add_while-exit-requires t c = let r = c.requires.room in omega (arith, r.fits, r.long)

pub add_while-returns : goal.add_while-returns
add_while-returns t c =
    let head = loop_head (rows_view c.args.rows.now) (block_view c.args.body.now) c.args.m.now _ c.args.walk.now.kept.now c.args.n (c.in_ok-set.ensures ∙ c.head.ensures) (λ t. (c.requires.fits t).0) in
    let point = written_point _ _ _ _ _ c.in_ok-add.ensures.line in
    record {
      added = loop_added _ _ _ _ _ _ _ _ _ _ _ _ _ head point c.pass_rows.ensures.image c.in_ok-turn.ensures.added refl refl;
      leaves = exit_leaves (loop (rows_view c.args.rows.now) (block_view c.args.body.now)) c.args.m.now _ c.args.walk.now.kept.now c.args.n (c.in_ok-set-2.ensures ∙ c.exit.ensures) (λ t. (c.requires.fits t).1);
    }

-- ---- `switch`

pub add_switch-add_arms-requires : goal.add_switch-add_arms-requires
add_switch-add_arms-requires t c = (
  omega (arith, c.decreases),
  (c.requires.text, (c.in_ok-add.ensures.page, (room_part _ _ _ _ _ c.requires.room (omega arith), switch_inside c.args.walk.now.kept.now _ _ _ _ (image_of _ _ _ c.pass_rows.ensures.image) (λ t. (c.requires.fits t).1)))),
)

pub add_switch-exit-requires : goal.add_switch-exit-requires
add_switch-exit-requires t c = let r = c.requires.room in omega (arith, r.fits, r.long)

pub add_switch-returns : goal.add_switch-returns
add_switch-returns t c =
    let point = written_point _ _ _ _ _ c.in_ok-add.ensures.line in
    record {
      added = switch_added _ _ _ _ _ _ point (rows_view c.args.rows.now) (arms_view c.args.arms.now) c.args.end _ _ _ c.pass_rows.ensures.image c.in_ok-ways.ensures.added;
      leaves = exit_leaves (switch (rows_view c.args.rows.now) (arms_view c.args.arms.now) c.args.end) c.args.m.now _ c.args.walk.now.kept.now c.args.n (c.in_ok-set.ensures ∙ c.exit.ensures) (λ t. (c.requires.fits t).0);
    }

-- ---- `focus`

pub add_focus-add_block-requires : goal.add_focus-add_block-requires
add_focus-add_block-requires t c = (
  omega (arith, c.decreases),
  (c.requires.text, (c.in_ok-add.ensures.page, (room_part _ _ _ _ _ c.requires.room (omega arith), fits_block c.args.walk.now.kept.now _ _ _ _ (image_of _ _ _ c.pass_rows.ensures.image) (λ t. c.requires.fits t)))),
)

pub add_focus-returns : goal.add_focus-returns
add_focus-returns t c =
    let point = written_point _ _ _ _ _ c.in_ok-add.ensures.line in
    record {
      added = focus_added _ _ _ _ _ _ point (rows_view c.args.rows.now) (rows_view c.args.after.now) (block_view c.args.body.now) _ _ _ c.pass_rows.ensures.image c.in_ok-inside.ensures.added;
      leaves = focus_leaves (rows_view c.args.rows.now) (rows_view c.args.after.now) (block_view c.args.body.now) c.args.m.now _ c.add_block.new.m _ c.pass_rows.ensures.image c.in_ok-inside.ensures.leaves c.pass_rows-2.ensures.image;
    }

-- ---- forms

pub add_form-returns-in_ok-add-in-Step : goal.add_form-returns-in_ok-add-in-Step
add_form-returns-in_ok-add-in-Step t c =
    let point = written_point _ _ _ _ _ c.in_ok-add-in-Step.ensures.line in
    let p = rw c.as_slice.ensures at c.pass_rows.ensures.image in
    rw (step_form _ _ c.in-Step.is) (record { added = step_added _ _ _ _ _ _ point (rows_view c.in-Step.rows) _ c.in_ok-add-in-Step.ensures.page refl refl; leaves = step_leaves (rows_view c.in-Step.rows) c.args.m.now _ p })

pub add_form-add_if-requires : goal.add_form-add_if-requires
add_form-add_if-requires t c =
    let room = rw (if_form _ _ _ _ c.in-If.is) at c.requires.room in
    let fits = rw (if_form _ _ _ _ c.in-If.is) at c.requires.fits in
    (omega (arith, c.decreases, ap size (if_form _ _ _ _ c.in-If.is)), (c.requires.text, (c.requires.page, (rw c.as_slice-in-If.ensures room, rw c.as_slice-in-If.ensures fits))))

pub add_form-returns-in-If : goal.add_form-returns-in-If
add_form-returns-in-If t c =
    let added = rw c.as_slice-in-If.ensures at c.add_if.ensures.added in
    let leaves = rw c.as_slice-in-If.ensures at c.add_if.ensures.leaves in
    rw (if_form _ _ _ _ c.in-If.is) (record { added = added; leaves = leaves })

pub add_form-add_while-requires : goal.add_form-add_while-requires
add_form-add_while-requires t c =
    let room = rw (while_form _ _ _ c.in-While.is) at c.requires.room in
    let fits = rw (while_form _ _ _ c.in-While.is) at c.requires.fits in
    (omega (arith, c.decreases, ap size (while_form _ _ _ c.in-While.is)), (c.requires.text, (c.requires.page, (rw c.as_slice-in-While.ensures room, rw c.as_slice-in-While.ensures fits))))

pub add_form-returns-in-While : goal.add_form-returns-in-While
add_form-returns-in-While t c =
    let added = rw c.as_slice-in-While.ensures at c.add_while.ensures.added in
    let leaves = rw c.as_slice-in-While.ensures at c.add_while.ensures.leaves in
    rw (while_form _ _ _ c.in-While.is) (record { added = added; leaves = leaves })

pub add_form-add_switch-requires : goal.add_form-add_switch-requires
add_form-add_switch-requires t c =
    let room = rw (switch_form _ _ _ _ c.in-Switch.is) at c.requires.room in
    let fits = rw (switch_form _ _ _ _ c.in-Switch.is) at c.requires.fits in
    let arms = ap (λ l. size_arms (arms_view l)) c.as_slice-in-Switch-2.ensures in
    (omega (arith, c.decreases, ap size (switch_form _ _ _ _ c.in-Switch.is), arms), (c.requires.text, (c.requires.page, (rw c.as_slice-in-Switch-2.ensures room, rw (c.as_slice-in-Switch.ensures, c.as_slice-in-Switch-2.ensures) fits))))

pub add_form-returns-in-Switch : goal.add_form-returns-in-Switch
add_form-returns-in-Switch t c =
    let added = rw (c.as_slice-in-Switch.ensures, c.as_slice-in-Switch-2.ensures) at c.add_switch.ensures.added in
    let leaves = rw (c.as_slice-in-Switch.ensures, c.as_slice-in-Switch-2.ensures) at c.add_switch.ensures.leaves in
    rw (switch_form _ _ _ _ c.in-Switch.is) (record { added = added; leaves = leaves })

pub add_form-add_block-requires : goal.add_form-add_block-requires
add_form-add_block-requires t c =
    let room = rw (scope_form _ _ c.in-Scope.is) at c.requires.room in
    let fits = rw (scope_form _ _ c.in-Scope.is) at c.requires.fits in
    (omega (arith, c.decreases, ap size (scope_form _ _ c.in-Scope.is)), (c.requires.text, (c.in_ok-add-in-Scope.ensures.page, (room_part _ _ _ _ _ room (omega arith), λ t. fits t))))

pub add_form-returns-in_ok-came-in-Scope : goal.add_form-returns-in_ok-came-in-Scope
add_form-returns-in_ok-came-in-Scope t c =
    let point = written_point _ _ _ _ _ c.in_ok-add-in-Scope.ensures.line in
    rw (scope_form _ _ c.in-Scope.is) (record { added = scope_added _ _ _ _ _ _ point (block_view c.in-Scope.body) _ _ c.in_ok-came-in-Scope.ensures.added; leaves = scope_leaves (block_view c.in-Scope.body) c.args.m.now _ c.in_ok-came-in-Scope.ensures.leaves })

pub add_form-add_focus-requires : goal.add_form-add_focus-requires
add_form-add_focus-requires t c =
    let room = rw (focus_form _ _ _ _ c.in-Focus.is) at c.requires.room in
    let fits = rw (focus_form _ _ _ _ c.in-Focus.is) at c.requires.fits in
    (omega (arith, c.decreases, ap size (focus_form _ _ _ _ c.in-Focus.is)), (c.requires.text, (c.requires.page, (rw (c.as_slice-in-Focus.ensures, c.as_slice-in-Focus-2.ensures) room, rw (c.as_slice-in-Focus.ensures, c.as_slice-in-Focus-2.ensures) fits))))

pub add_form-returns-in-Focus : goal.add_form-returns-in-Focus
add_form-returns-in-Focus t c =
    let added = rw (c.as_slice-in-Focus.ensures, c.as_slice-in-Focus-2.ensures) at c.add_focus.ensures.added in
    let leaves = rw (c.as_slice-in-Focus.ensures, c.as_slice-in-Focus-2.ensures) at c.add_focus.ensures.leaves in
    rw (focus_form _ _ _ _ c.in-Focus.is) (record { added = added; leaves = leaves })

pub add_form-add_last-requires-clause-few : goal.add_form-add_last-requires-clause-few
add_form-add_last-requires-clause-few t c =
    let room = rw (return_form _ _ c.in-Return.is) at c.requires.room in
    omega (arith, room.fits, room.few)

pub add_form-returns-in_ok-came-in-Return : goal.add_form-returns-in_ok-came-in-Return
add_form-returns-in_ok-came-in-Return t c =
    rw (return_form _ _ c.in-Return.is) (record { added = return_added _ _ _ (rows_view c.in-Return.rows) _ _ _ _ c.in_ok-came-in-Return.ensures.added; leaves = return_leaves (rows_view c.in-Return.rows) c.args.m.now _ c.in_ok-came-in-Return.ensures.leaves })

pub add_form-add_last-requires-in-Jump-clause-few : goal.add_form-add_last-requires-in-Jump-clause-few
add_form-add_last-requires-in-Jump-clause-few t c =
    let room = rw (jump_form _ _ _ c.in-Jump.is) at c.requires.room in
    omega (arith, room.fits, room.few)

pub add_form-returns-in_ok-came-in-Jump : goal.add_form-returns-in_ok-came-in-Jump
add_form-returns-in_ok-came-in-Jump t c =
    rw (jump_form _ _ _ c.in-Jump.is) (record { added = jump_added _ _ _ c.in-Jump.continues (toks_of c.in-Jump.left) _ _ _ _ c.in_ok-came-in-Jump.ensures.added; leaves = jump_leaves c.in-Jump.continues (toks_of c.in-Jump.left) c.args.m.now _ c.in_ok-came-in-Jump.ensures.leaves })
