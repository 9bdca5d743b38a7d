use Rattle.std.proofs.Common.{◌<◌, length, arith, refl, ap, ◌∙◌}
use Rattle.vlt_core.specs.Flow.{size, size_block, size_stmts, size_arms}
use Rattle.vlt_rows.specs.FlowView.{rows_view, stmts_view, arms_view}
use Rattle.vlt_rows.specs.declared.tree.FlowBlock.{out-FlowBlock}
use Rattle.vlt_rows.proofs.Views.{step_form, if_form, while_form, switch_form, scope_form, focus_form, return_form, jump_form, block_parts}
use Rattle.vlt_faults.proofs.OfFinding.Sweeps.{split_at}
use Rattle.vlt_points.proofs.Keeps.{room_went, room_less, went_here, went_trans}
use Rattle.vlt_points.proofs.Sweeps.{step_swept, return_swept, return_went, jump_swept, jump_went, choose_swept, choose_went, loop_swept, loop_went, switch_swept, switch_went, focus_swept, focus_went, block_swept, block_went, way_swept, turn_swept, turn_went, listing_first, listing_room, listing_small, listing_more, listing_ends, listing_at, arming_first, arming_room, arming_small, arming_more, arming_ends, arming_at}
use Rattle.vlt_points.proofs.sweep.+sweep.Goals as goal

-- ---- lists

pub sweep_list-loop-s-init : goal.sweep_list-loop-s-init
sweep_list-loop-s-init t c = listing_first _ _ _ _ _

pub sweep_list-sweep_form-requires : goal.sweep_list-sweep_form-requires
sweep_list-sweep_form-requires t c =
    let lt : c.loop-s.s-index < length c.args.stmts.now = omega arith in
    let split = split_at _ _ _ lt c.s-item.is in
    (omega (arith, c.decreases, listing_small _ _ _ _ _ _ _ _ _ c.s-item.result split c.loop-s.invariant), listing_room _ _ _ _ _ _ _ _ _ c.s-item.result split c.requires.room c.loop-s.invariant)

pub sweep_list-loop-s-preserved : goal.sweep_list-loop-s-preserved
sweep_list-loop-s-preserved t c =
    let lt : c.loop-s.s-index < length c.args.stmts.now = omega arith in
    listing_more _ _ _ _ _ _ _ _ _ _ _ _ c.s-item.result (split_at _ _ _ lt c.s-item.is) c.loop-s.invariant c.in_ok-at.ensures.swept c.in_ok-at.ensures.went c.in_ok-at.ensures.at

pub sweep_list-returns : goal.sweep_list-returns
sweep_list-returns t c = record {
  swept = listing_ends _ _ _ _ _ _ _ _ _ (omega (arith, c.loop-s-test.false)) c.loop-s.invariant;
  went = c.loop-s.invariant.went;
  at = listing_at _ _ _ _ _ _ _ _ _ (omega (arith, c.loop-s-test.false)) c.loop-s.invariant;
}

-- ---- blocks

pub sweep_block-sweep_list-requires : goal.sweep_block-sweep_list-requires
sweep_block-sweep_list-requires t c =
    let r = rw (block_parts c.args.block.now) at c.requires.room in
    (omega (arith, c.decreases, ap size_block (block_parts c.args.block.now), ap (λ l. size_stmts (stmts_view l)) c.as_slice.ensures), rw c.as_slice.ensures r)

pub sweep_block-returns-clause-swept : goal.sweep_block-returns-clause-swept
sweep_block-returns-clause-swept t c =
    let w = rw c.as_slice.ensures at c.in_ok-at.ensures.swept in
    let p = rw c.as_slice-2.ensures at c.pass_gone.ensures.image in
    rw (block_parts c.args.block.now) (block_swept c.args.l c.args.n c.args.kept.now _ _ _ _ (out-FlowBlock c.args.block.now).end _ c.sweep_list.new.kept w p)

pub sweep_block-returns-clause-went : goal.sweep_block-returns-clause-went
sweep_block-returns-clause-went t c = block_went c.args.l c.args.n _ _ _ _ _ c.in_ok-at.ensures.went c.pass_gone.ensures.long

pub sweep_block-returns-clause-at : goal.sweep_block-returns-clause-at
sweep_block-returns-clause-at t c =
    let a = rw c.as_slice.ensures at c.in_ok-at.ensures.at in
    rw (block_parts c.args.block.now) a

-- ---- ways

pub sweep_way-join_exit-requires : goal.sweep_way-join_exit-requires
sweep_way-join_exit-requires t c =
    let w = c.in_ok-at.ensures.went in omega (arith, w.following, c.requires.room.long, c.requires.choice)

pub sweep_way-returns : goal.sweep_way-returns
sweep_way-returns t c = record {
  swept = way_swept _ c.args.l c.args.c c.args.n c.args.kept.now c.sweep_block.new.kept c.join_exit.new.self _ _ c.in_ok-at.ensures.swept c.in_ok-join_exit.ensures.into;
  went = went_trans _ _ _ _ _ _ c.in_ok-at.ensures.went c.in_ok-join_exit.ensures.went;
  at = c.in_ok-at.ensures.at;
}

-- ---- turns

pub sweep_turn-join_exit-requires : goal.sweep_turn-join_exit-requires
sweep_turn-join_exit-requires t c = let r = c.requires.room in omega (arith, r.long, c.requires.within)

pub sweep_turn-sweep_block-requires : goal.sweep_turn-sweep_block-requires
sweep_turn-sweep_block-requires t c =
    let w = c.in_ok-join_exit.ensures.went in
    let r = room_went _ _ _ _ _ _ c.requires.room w in
    (omega (arith, c.decreases), record { fits = r.fits; long = r.long; few = r.few; loop = omega (arith, w.around, c.requires.within) })

pub sweep_turn-join_head-requires : goal.sweep_turn-join_head-requires
sweep_turn-join_head-requires t c = omega (arith, c.in_ok-join_exit.ensures.went.around, c.in_ok-at.ensures.went.around, c.requires.within)

pub sweep_turn-returns : goal.sweep_turn-returns
sweep_turn-returns t c = record {
  swept = turn_swept _ _ c.args.n c.args.kept.now c.join_exit.new.self c.sweep_block.new.kept c.join_head.new.self _ _ _ (c.in_ok-m.ensures ∙ c.head.ensures) c.pass_rows.ensures.image c.in_ok-join_exit.ensures.into c.in_ok-at.ensures.swept c.in_ok-join_head.ensures.into;
  went = turn_went c.args.n _ _ _ _ _ _ _ (c.in_ok-m.ensures ∙ c.head.ensures) c.pass_rows.ensures.long c.in_ok-join_exit.ensures.went c.in_ok-at.ensures.went c.in_ok-join_head.ensures.went;
  at = c.in_ok-at.ensures.at;
}

-- ---- arms

pub sweep_arms-loop-arm-init : goal.sweep_arms-loop-arm-init
sweep_arms-loop-arm-init t c = arming_first _ _ _ _ _

pub sweep_arms-sweep_way-requires : goal.sweep_arms-sweep_way-requires
sweep_arms-sweep_way-requires t c =
    let lt : c.loop-arm.arm-index < length c.args.arms.now = omega arith in
    let split = split_at _ _ _ lt c.arm-item.is in
    let r = arming_room _ _ _ _ _ _ _ _ c.arm-item.result split c.requires.room c.loop-arm.invariant in
    (omega (arith, c.decreases, arming_small _ _ _ _ _ _ _ _ c.arm-item.result split c.loop-arm.invariant), r)

pub sweep_arms-loop-arm-preserved : goal.sweep_arms-loop-arm-preserved
sweep_arms-loop-arm-preserved t c =
    let lt : c.loop-arm.arm-index < length c.args.arms.now = omega arith in
    let p = rw (c.as_slice.ensures, c.in_ok-way.ensures) at c.pass_rows.ensures.image in
    let long = rw c.in_ok-way.ensures at c.pass_rows.ensures.long in
    arming_more _ _ _ _ _ _ _ _ _ _ _ _ c.arm-item.result (split_at _ _ _ lt c.arm-item.is) c.loop-arm.invariant p long c.in_ok-at.ensures.swept c.in_ok-at.ensures.went c.in_ok-at.ensures.at

pub sweep_arms-returns : goal.sweep_arms-returns
sweep_arms-returns t c = record {
  swept = arming_ends _ _ _ _ _ _ _ _ (omega (arith, c.loop-arm-test.false)) c.loop-arm.invariant;
  went = c.loop-arm.invariant.went;
  at = arming_at _ _ _ _ _ _ _ _ (omega (arith, c.loop-arm-test.false)) c.loop-arm.invariant;
}

-- ---- forms

pub sweep_form-returns-in-Step : goal.sweep_form-returns-in-Step
sweep_form-returns-in-Step t c =
    let p = rw c.as_slice.ensures at c.pass_rows.ensures.image in
    rw (step_form _ _ c.in-Step.is) (record { swept = step_swept c.args.l c.args.n c.args.kept.now _ _ _ p; went = went_here _ _ _ c.pass_rows.ensures.long; at = refl })

pub sweep_form-sweep_way-requires : goal.sweep_form-sweep_way-requires
sweep_form-sweep_way-requires t c =
    let room = rw (if_form _ _ _ _ c.in-If.is) at c.requires.room in
    (omega (arith, c.decreases, ap size (if_form _ _ _ _ c.in-If.is)), (room_less _ _ _ _ room (omega arith), omega (arith, room.fits)))

pub sweep_form-sweep_way-requires-in-If : goal.sweep_form-sweep_way-requires-in-If
sweep_form-sweep_way-requires-in-If t c =
    let room = rw (if_form _ _ _ _ c.in-If.is) at c.requires.room in
    let w = c.in_ok-first-in-If.ensures.went in
    (omega (arith, c.decreases, ap size (if_form _ _ _ _ c.in-If.is)), (room_less _ _ _ _ (room_went _ _ _ _ _ _ room w) (omega (arith, c.in_ok-first-in-If.ensures.at)), omega (arith, w.around, room.fits)))

pub sweep_form-exit-requires : goal.sweep_form-exit-requires
sweep_form-exit-requires t c =
    let room = rw (if_form _ _ _ _ c.in-If.is) at c.requires.room in
    omega (arith, room.fits, room.long, c.in_ok-first-in-If.ensures.went.following, c.in_ok-second-in-If.ensures.went.following)

pub sweep_form-returns-in_ok-set-in-If : goal.sweep_form-returns-in_ok-set-in-If
sweep_form-returns-in_ok-set-in-If t c =
    let p = rw c.as_slice-in-If.ensures at c.pass_rows-in-If.ensures.image in
    let left = c.in_ok-set-in-If.ensures ∙ c.exit.ensures in
    let first = c.in_ok-first-in-If.ensures in
    let second = c.in_ok-second-in-If.ensures in
    rw (if_form _ _ _ _ c.in-If.is) (record {
      swept = choose_swept c.args.l c.args.n c.args.kept.now _ _ _ _ _ _ _ c.sweep_way.new.kept c.sweep_way-in-If.new.kept _ p c.in_ok-other-in-If.ensures first.swept first.at second.swept left;
      went = choose_went c.args.l c.args.n _ _ _ _ _ _ _ _ _ c.pass_rows-in-If.ensures.long c.in_ok-other-in-If.ensures first.went second.went left;
      at = let a = first.at in let b = second.at in omega (arith, a, b);
    })

pub sweep_form-join_head-requires : goal.sweep_form-join_head-requires
sweep_form-join_head-requires t c = let room = rw (while_form _ _ _ c.in-While.is) at c.requires.room in omega (arith, room.fits)

pub sweep_form-sweep_turn-requires : goal.sweep_form-sweep_turn-requires
sweep_form-sweep_turn-requires t c =
    let room = rw (while_form _ _ _ c.in-While.is) at c.requires.room in
    let w = c.in_ok-join_head-in-While.ensures.went in
    let r = room_went _ _ _ _ _ _ room w in
    (omega (arith, c.decreases, ap size (while_form _ _ _ c.in-While.is)), (record { fits = let f = r.fits in omega (arith, f); long = r.long; few = r.few; loop = tt }, omega (arith, r.fits)))

pub sweep_form-exit-requires-in-While : goal.sweep_form-exit-requires-in-While
sweep_form-exit-requires-in-While t c =
    let room = rw (while_form _ _ _ c.in-While.is) at c.requires.room in
    omega (arith, room.fits, room.long, c.in_ok-join_head-in-While.ensures.went.following, c.in_ok-at-in-While.ensures.went.following)

pub sweep_form-returns-in_ok-set-in-While : goal.sweep_form-returns-in_ok-set-in-While
sweep_form-returns-in_ok-set-in-While t c =
    let turn = rw c.as_slice-in-While.ensures at c.in_ok-at-in-While.ensures.swept in
    let left = c.in_ok-set-in-While.ensures ∙ c.exit-in-While.ensures in
    rw (while_form _ _ _ c.in-While.is) (record {
      swept = loop_swept c.args.l c.args.n c.args.kept.now _ _ _ _ c.join_head.new.self c.sweep_turn.new.kept c.in_ok-join_head-in-While.ensures.into turn left;
      went = loop_went c.args.l c.args.n _ _ _ _ _ c.in_ok-join_head-in-While.ensures.went c.in_ok-at-in-While.ensures.went left;
      at = let a = c.in_ok-at-in-While.ensures.at in omega (arith, a);
    })

pub sweep_form-sweep_arms-requires : goal.sweep_form-sweep_arms-requires
sweep_form-sweep_arms-requires t c =
    let room = rw (switch_form _ _ _ _ c.in-Switch.is) at c.requires.room in
    let e = ap (λ l. size_arms (arms_view l)) c.as_slice-in-Switch-2.ensures in
    (omega (arith, c.decreases, ap size (switch_form _ _ _ _ c.in-Switch.is), e), rw c.as_slice-in-Switch-2.ensures (room_less _ _ _ _ room (omega arith)))

pub sweep_form-exit-requires-in-Switch : goal.sweep_form-exit-requires-in-Switch
sweep_form-exit-requires-in-Switch t c =
    let room = rw (switch_form _ _ _ _ c.in-Switch.is) at c.requires.room in
    omega (arith, room.fits, room.long, c.in_ok-at-in-Switch.ensures.went.following)

pub sweep_form-returns-in_ok-set-in-Switch : goal.sweep_form-returns-in_ok-set-in-Switch
sweep_form-returns-in_ok-set-in-Switch t c =
    let p = rw c.as_slice-in-Switch.ensures at c.pass_rows-in-Switch.ensures.image in
    let arms = rw c.as_slice-in-Switch-2.ensures at c.in_ok-at-in-Switch.ensures.swept in
    let at = rw c.as_slice-in-Switch-2.ensures at c.in_ok-at-in-Switch.ensures.at in
    let left = c.in_ok-set-in-Switch.ensures ∙ c.exit-in-Switch.ensures in
    rw (switch_form _ _ _ _ c.in-Switch.is) (record {
      swept = switch_swept c.args.l c.args.n c.args.kept.now _ _ _ _ c.in-Switch.end _ c.sweep_arms.new.kept p arms left;
      went = switch_went c.args.l c.args.n _ _ _ _ _ c.pass_rows-in-Switch.ensures.long c.in_ok-at-in-Switch.ensures.went left;
      at = omega (arith, at);
    })

pub sweep_form-sweep_block-requires : goal.sweep_form-sweep_block-requires
sweep_form-sweep_block-requires t c =
    let room = rw (scope_form _ _ c.in-Scope.is) at c.requires.room in
    (omega (arith, c.decreases, ap size (scope_form _ _ c.in-Scope.is)), room_less _ _ _ _ room (omega arith))

pub sweep_form-returns-in_ok-at-in-Scope : goal.sweep_form-returns-in_ok-at-in-Scope
sweep_form-returns-in_ok-at-in-Scope t c =
    let w = c.in_ok-at-in-Scope.ensures in
    rw (scope_form _ _ c.in-Scope.is) (record { swept = w.swept; went = w.went; at = let a = w.at in omega (arith, a) })

pub sweep_form-sweep_block-requires-in-Focus : goal.sweep_form-sweep_block-requires-in-Focus
sweep_form-sweep_block-requires-in-Focus t c =
    let room = rw (focus_form _ _ _ _ c.in-Focus.is) at c.requires.room in
    (omega (arith, c.decreases, ap size (focus_form _ _ _ _ c.in-Focus.is)), room_less _ _ _ _ room (omega arith))

pub sweep_form-returns-in_ok-at-in-Focus : goal.sweep_form-returns-in_ok-at-in-Focus
sweep_form-returns-in_ok-at-in-Focus t c =
    let p = rw c.as_slice-in-Focus.ensures at c.pass_rows-in-Focus.ensures.image in
    let e = rw c.as_slice-in-Focus-2.ensures at c.pass_rows-in-Focus-2.ensures.image in
    let w = c.in_ok-at-in-Focus.ensures in
    rw (focus_form _ _ _ _ c.in-Focus.is) (record {
      swept = focus_swept c.args.l c.args.n c.args.kept.now _ _ _ _ _ _ _ c.sweep_block-in-Focus.new.kept p w.swept e;
      went = focus_went c.args.l c.args.n _ _ _ _ _ _ c.pass_rows-in-Focus.ensures.long w.went c.pass_rows-in-Focus-2.ensures.long;
      at = let a = w.at in omega (arith, a);
    })

pub sweep_form-returns-in-Return : goal.sweep_form-returns-in-Return
sweep_form-returns-in-Return t c = rw (return_form _ _ c.in-Return.is) (record { swept = return_swept c.args.l c.args.n c.args.kept.now c.args.m.now _ (rows_view c.in-Return.rows) c.clear.ensures; went = return_went c.args.l c.args.n c.args.kept.now c.args.m.now _ c.clear.ensures; at = refl })

pub sweep_form-land-requires : goal.sweep_form-land-requires
sweep_form-land-requires t c = let room = c.requires.room in record { long = room.long; around = room.loop }

pub sweep_form-returns-in_ok-land-in-Jump : goal.sweep_form-returns-in_ok-land-in-Jump
sweep_form-returns-in_ok-land-in-Jump t c =
    let p = rw c.as_slice-in-Jump.ensures at c.pass_gone.ensures.image in
    rw (jump_form _ _ _ c.in-Jump.is) (record {
      swept = jump_swept c.args.l c.args.n c.args.kept.now _ _ _ _ _ c.land.new.kept p c.in_ok-land-in-Jump.ensures.lands c.clear-in-Jump.ensures;
      went = jump_went c.args.l c.args.n _ _ _ _ _ c.pass_gone.ensures.long c.in_ok-land-in-Jump.ensures.went c.clear-in-Jump.ensures;
      at = refl;
    })
