use Rattle.std.proofs.Common.{◌<◌, ◌+◌, length, arith, refl, sym, ap, ◌∙◌}
use Rattle.std.proofs.lemmas.List.{length-map}
use Rattle.vlt_core.specs.Flow.{end_of, size, size_arms}
use Rattle.vlt_core.specs.View.{tok_of}
use Rattle.vlt_core.specs.HeldView.{row_of}
use Rattle.vlt_rows.specs.FlowView.{arms_view}
use Rattle.vlt_rows.specs.declared.tree.FlowBlock.{out-FlowBlock}
use Rattle.vlt_rows.specs.declared.tree.FlowArm.{out-FlowArm}
use Rattle.vlt_rows.proofs.Views.{step_form, if_form, while_form, switch_form, scope_form, focus_form, return_form, jump_form, block_parts}
use Rattle.vlt_faults.proofs.OfFinding.Sweeps.{split_at}
use Rattle.vlt_faults.proofs.OfJudge.Points.{image_same}
use Rattle.vlt_faults.proofs.OfJudge.Forms.{choose_room, choose_fits, other_room, other_fits, choose_judged, loop_room, loop_fits, loop_judged, switch_room, switch_fits, switch_judged, focus_room, focus_fits, focus_judged, block_judged, scope_judged, return_judged, jump_judged}
use Rattle.vlt_faults.proofs.OfJudge.Turns.{listing_first, listing_more, listing_ends, arming_first, arming_small, arming_room, arming_fits, arming_more, arming_ends}
use Rattle.vlt_faults.proofs.judge.judging.+judge.Goals as goal

pub judge_if-returns : goal.judge_if-returns
judge_if-returns t c =
    let same = sym (length-map c.args.rows.now row_of) in
    let p = c.judge_rows-p in
    choose_judged _ _ _ _ _ _ _ _ same p.result.ones c.requires.room c.requires.fits p.ensures.ones _ c.judge_block-a.ensures _ c.exit-following.result _ _ _ _ _ _ (sym (ap end_of (block_parts c.args.else_block.now)))
    p.ensures.first c.judge_block-b.ensures c.exit-following.ensures c.judge_join-join.ensures c.earlier.ensures c.earlier-2.ensures c.earlier-3.ensures

pub judge_while-returns : goal.judge_while-returns
judge_while-returns t c =
    let same = sym (length-map c.args.rows.now row_of) in
    let p = c.judge_rows-p in
    loop_judged _ _ _ _ _ _ _ same c.head-top.result p.result.ones c.requires.room c.requires.fits c.head-top.ensures p.ensures.ones _ c.exit-following.result _ _ _ _ _ _ _ (sym (ap end_of (block_parts c.args.body.now)))
    c.judge_join-head.ensures p.ensures.first c.judge_block-s.ensures c.exit-following.ensures c.judge_join-join.ensures c.earlier.ensures c.earlier-2.ensures c.earlier-3.ensures

pub judge_switch-returns : goal.judge_switch-returns
judge_switch-returns t c =
    let same = sym (length-map c.args.rows.now row_of) in
    let p = c.judge_rows-p in
    switch_judged _ _ _ _ _ _ _ _ same p.result.ones c.requires.room c.requires.fits p.ensures.ones _ c.exit-following.result _ _ _ _
    p.ensures.first c.judge_arms-s.ensures c.exit-following.ensures c.judge_join-join.ensures c.earlier.ensures c.earlier-2.ensures

pub judge_focus-returns : goal.judge_focus-returns
judge_focus-returns t c =
    let same = sym (length-map c.args.rows.now row_of) in
    let alike = sym (length-map c.args.after.now row_of) in
    let p = c.judge_rows-p in
    focus_judged _ _ _ _ _ _ _ _ _ same alike p.result.ones c.requires.room c.requires.fits p.ensures.ones _ _ _ _ _ _ _ (sym (ap end_of (block_parts c.args.body.now)))
    p.ensures.first c.judge_block-s.ensures c.judge_rows-e.ensures.first c.judge_rows-e.ensures.ones c.earlier.ensures c.earlier-2.ensures

pub judge_block-returns : goal.judge_block-returns
judge_block-returns t c =
    let s = rw c.as_slice.ensures at c.judge_list-s.ensures in
    let z = rw c.as_slice-2.ensures at c.judge_gone-e.ensures.first in
    let last = rw c.as_slice-2.ensures at c.judge_gone-e.ensures.ones in
    rw (block_parts c.args.block.now) (block_judged c.args.kept.now _ _ _ _ _ c.len.result (c.len.ensures ∙ sym (length-map (out-FlowBlock c.args.block.now).bound tok_of)) c.judge_list-s.result c.judge_gone-e.result.ones _ _ s z last c.earlier.ensures)

pub judge_list-loop-s-init : goal.judge_list-loop-s-init
judge_list-loop-s-init t c = listing_first _ _ _ _ c.requires.fits

pub judge_list-loop-s-preserved : goal.judge_list-loop-s-preserved
judge_list-loop-s-preserved t c =
    let lt : c.loop-s.s-index < length c.args.stmts.now = omega arith in
    listing_more _ _ _ _ _ _ _ _ _ c.s-item.result (split_at _ _ _ lt c.s-item.is) c.loop-s.invariant c.judge_form-j.ensures c.earlier-first.ensures

pub judge_list-returns : goal.judge_list-returns
judge_list-returns t c = listing_ends _ _ _ _ _ _ _ (omega (arith, c.loop-s-test.false)) c.loop-s.invariant

pub judge_arms-loop-arm-init : goal.judge_arms-loop-arm-init
judge_arms-loop-arm-init t c = arming_first _ _ _ _ _ c.requires.fits

pub judge_arms-loop-arm-preserved : goal.judge_arms-loop-arm-preserved
judge_arms-loop-arm-preserved t c =
    let lt : c.loop-arm.arm-index < length c.args.arms.now = omega arith in
    let rows = rw c.as_slice.ensures at c.judge_rows-p.ensures.first in
    let image = rw c.as_slice.ensures at c.judge_rows-p.ensures.ones in
    let same = c.len.ensures ∙ sym (length-map (out-FlowArm c.arm-item.result).rows row_of) in
    arming_more _ _ _ _ _ _ _ _ _ _ _ _ _ c.arm-item.result (split_at _ _ _ lt c.arm-item.is) c.loop-arm.invariant rows refl (ap (λ n. c.loop-arm.next.spot + n) same)
    (image_same _ _ _ _ image) c.judge_block-s.ensures c.earlier.ensures c.earlier-first.ensures

pub judge_arms-judge_block-s-requires : goal.judge_arms-judge_block-s-requires
judge_arms-judge_block-s-requires t c =
    let lt : c.loop-arm.arm-index < length c.args.arms.now = omega arith in
    let image = rw c.as_slice.ensures at c.judge_rows-p.ensures.ones in
    let same = c.len.ensures ∙ sym (length-map (out-FlowArm c.arm-item.result).rows row_of) in
    let split = split_at _ _ _ lt c.arm-item.is in (
      omega (arith, c.decreases, arming_small _ _ _ _ _ _ _ _ c.arm-item.result split c.loop-arm.invariant),
      (
        arming_room _ _ _ _ _ _ _ _ c.arm-item.result c.len.result c.judge_rows-p.result.ones split same c.requires.room c.loop-arm.invariant,
        arming_fits _ _ _ _ _ _ _ _ c.arm-item.result (c.loop-arm.next.spot + c.len.result) c.judge_rows-p.result.ones split (image_same _ _ _ _ image) c.loop-arm.invariant,
      ),
    )

pub judge_arms-returns : goal.judge_arms-returns
judge_arms-returns t c = arming_ends _ _ _ _ _ _ _ _ (omega (arith, c.loop-arm-test.false)) c.loop-arm.invariant

-- ---- the room and the tables of parts

pub judge_if-judge_block-a-requires : goal.judge_if-judge_block-a-requires
judge_if-judge_block-a-requires t c =
    let same = sym (length-map c.args.rows.now row_of) in
    let p = c.judge_rows-p in (
      omega (arith, c.decreases),
      (
        choose_room _ _ c.args.at _ _ _ _ _ same p.result.ones c.requires.room c.requires.fits p.ensures.ones,
        choose_fits _ _ c.args.at _ _ _ _ _ same p.result.ones c.requires.room c.requires.fits p.ensures.ones,
      ),
    )

pub judge_if-judge_block-b-requires : goal.judge_if-judge_block-b-requires
judge_if-judge_block-b-requires t c =
    let same = sym (length-map c.args.rows.now row_of) in
    let p = c.judge_rows-p in (
      omega (arith, c.decreases),
      (
        other_room _ _ c.args.at _ _ _ _ _ same p.result.ones c.requires.room c.requires.fits p.ensures.ones _ c.judge_block-a.ensures,
        other_fits _ _ c.args.at _ _ _ _ _ same p.result.ones c.requires.room c.requires.fits p.ensures.ones _ c.judge_block-a.ensures,
      ),
    )

pub judge_while-judge_block-s-requires : goal.judge_while-judge_block-s-requires
judge_while-judge_block-s-requires t c =
    let same = sym (length-map c.args.rows.now row_of) in
    let p = c.judge_rows-p in (
      omega (arith, c.decreases),
      (
        loop_room _ _ c.args.at _ _ _ _ same c.head-top.result p.result.ones c.requires.room c.requires.fits c.head-top.ensures p.ensures.ones,
        loop_fits _ _ c.args.at _ _ _ _ same c.head-top.result p.result.ones c.requires.room c.requires.fits c.head-top.ensures p.ensures.ones,
      ),
    )

pub judge_switch-judge_arms-s-requires : goal.judge_switch-judge_arms-s-requires
judge_switch-judge_arms-s-requires t c =
    let same = sym (length-map c.args.rows.now row_of) in
    let p = c.judge_rows-p in (
      omega (arith, c.decreases),
      (
        switch_room _ _ c.args.at _ _ c.args.end _ _ same p.result.ones c.requires.room c.requires.fits p.ensures.ones,
        switch_fits _ _ c.args.at _ _ c.args.end _ _ same p.result.ones c.requires.room c.requires.fits p.ensures.ones,
      ),
    )

pub judge_focus-judge_block-s-requires : goal.judge_focus-judge_block-s-requires
judge_focus-judge_block-s-requires t c =
    let same = sym (length-map c.args.rows.now row_of) in
    let alike = sym (length-map c.args.after.now row_of) in
    let p = c.judge_rows-p in (
      omega (arith, c.decreases),
      (
        focus_room _ _ c.args.at _ _ _ _ _ _ same alike p.result.ones c.requires.room c.requires.fits p.ensures.ones,
        focus_fits _ _ c.args.at _ _ _ _ _ _ same alike p.result.ones c.requires.room c.requires.fits p.ensures.ones,
      ),
    )

-- ---- forms

pub judge_form-judge_if-requires : goal.judge_form-judge_if-requires
judge_form-judge_if-requires t c =
    let q = rw (if_form _ _ _ _ c.in-If.is) at c.requires in
    (omega (arith, c.decreases, ap size (if_form _ _ _ _ c.in-If.is)), rw c.as_slice-in-If.ensures (q.room, q.fits))

pub judge_form-judge_while-requires : goal.judge_form-judge_while-requires
judge_form-judge_while-requires t c =
    let q = rw (while_form _ _ _ c.in-While.is) at c.requires in
    (omega (arith, c.decreases, ap size (while_form _ _ _ c.in-While.is)), rw c.as_slice-in-While.ensures (q.room, q.fits))

pub judge_form-judge_switch-requires : goal.judge_form-judge_switch-requires
judge_form-judge_switch-requires t c =
    let q = rw (switch_form _ _ _ _ c.in-Switch.is) at c.requires in
    let arms = ap (λ l. size_arms (arms_view l)) c.as_slice-in-Switch-2.ensures in
    (omega (arith, c.decreases, ap size (switch_form _ _ _ _ c.in-Switch.is), arms), rw (c.as_slice-in-Switch.ensures, c.as_slice-in-Switch-2.ensures) (q.room, q.fits))

pub judge_form-judge_rows-p-requires : goal.judge_form-judge_rows-p-requires
judge_form-judge_rows-p-requires t c =
    let room = rw (return_form _ _ c.in-Return.is) at c.requires.room in
    let same = sym (length-map c.in-Return.rows row_of) in
    let n = room.numbers in
    omega (arith, n, same, ap length c.as_slice-in-Return.ensures)

pub judge_form-after_all-requires-clause-spots : goal.judge_form-after_all-requires-clause-spots
judge_form-after_all-requires-clause-spots t c =
    let room = rw (return_form _ _ c.in-Return.is) at c.requires.room in
    let same = sym (length-map c.in-Return.rows row_of) in
    let n = room.numbers in
    omega (arith, n, same, c.len.ensures)

pub judge_form-judge_gone-p-requires : goal.judge_form-judge_gone-p-requires
judge_form-judge_gone-p-requires t c =
    let room = rw (jump_form _ _ _ c.in-Jump.is) at c.requires.room in
    let same = sym (length-map c.in-Jump.left tok_of) in
    let n = room.numbers in
    omega (arith, n, same, ap length c.as_slice-in-Jump.ensures)

pub judge_form-after_all-requires-in-Jump-clause-spots : goal.judge_form-after_all-requires-in-Jump-clause-spots
judge_form-after_all-requires-in-Jump-clause-spots t c =
    let room = rw (jump_form _ _ _ c.in-Jump.is) at c.requires.room in
    let same = sym (length-map c.in-Jump.left tok_of) in
    let n = room.numbers in
    omega (arith, n, same, c.len-in-Jump.ensures)

pub judge_form-returns-in-Step : goal.judge_form-returns-in-Step
judge_form-returns-in-Step t c =
    let j = rw c.as_slice.ensures at c.judge_step.ensures in
    rw (step_form _ _ c.in-Step.is) j

pub judge_form-returns-in-If : goal.judge_form-returns-in-If
judge_form-returns-in-If t c =
    let j = rw c.as_slice-in-If.ensures at c.judge_if.ensures in
    rw (if_form _ _ _ _ c.in-If.is) j

pub judge_form-returns-in-While : goal.judge_form-returns-in-While
judge_form-returns-in-While t c =
    let j = rw c.as_slice-in-While.ensures at c.judge_while.ensures in
    rw (while_form _ _ _ c.in-While.is) j

pub judge_form-returns-in-Switch : goal.judge_form-returns-in-Switch
judge_form-returns-in-Switch t c =
    let j = rw (c.as_slice-in-Switch.ensures, c.as_slice-in-Switch-2.ensures) at c.judge_switch.ensures in
    rw (switch_form _ _ _ _ c.in-Switch.is) j

pub judge_form-returns-in-Scope : goal.judge_form-returns-in-Scope
judge_form-returns-in-Scope t c = rw (scope_form _ _ c.in-Scope.is) (scope_judged _ _ _ _ _ c.judge_block.ensures)

pub judge_form-returns-in-Focus : goal.judge_form-returns-in-Focus
judge_form-returns-in-Focus t c =
    let j = rw (c.as_slice-in-Focus.ensures, c.as_slice-in-Focus-2.ensures) at c.judge_focus.ensures in
    rw (focus_form _ _ _ _ c.in-Focus.is) j

pub judge_form-returns-in-Return : goal.judge_form-returns-in-Return
judge_form-returns-in-Return t c =
    let f = rw c.as_slice-in-Return.ensures at c.judge_rows-p.ensures.first in
    rw (return_form _ _ c.in-Return.is) (return_judged _ _ _ _ _ c.len.result _ (c.len.ensures ∙ sym (length-map c.in-Return.rows row_of)) f c.after_all.ensures)

pub judge_form-returns-in-Jump : goal.judge_form-returns-in-Jump
judge_form-returns-in-Jump t c =
    let f = rw c.as_slice-in-Jump.ensures at c.judge_gone-p.ensures.first in
    rw (jump_form _ _ _ c.in-Jump.is) (jump_judged _ _ _ _ _ _ c.len-in-Jump.result _ (c.len-in-Jump.ensures ∙ sym (length-map c.in-Jump.left tok_of)) f c.after_all-in-Jump.ensures)
