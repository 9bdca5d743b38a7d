use Rattle.std.proofs.Common.{◌<◌, ◌+◌, ◌||◌, [], ◌∷◌, ◌++◌, if◌then◌else◌, length, arith, subst}
use Rattle.vlt_core.specs.Flow.{choose, loop, switch, passes_block}
use Rattle.vlt_rows.specs.FlowView.{rows_view, block_view, arms_view}
use Rattle.vlt_rows.proofs.Views.{if_form, while_form, switch_form}
use Rattle.vlt_core.specs.Least.{a_join, noted, noted_block, noted_arms}
use Rattle.vlt_flow.specs.Notes.Noted.{IsNoted, LacksNote}
use Rattle.vlt_flow.proofs.OfNotes.Noting.{split_at, noted_more, on_more, listing_first, listing_long, listing_small, listing_more, listing_ends, listing_at, arming_first, arming_long, arming_small, arming_more, arming_ends, arming_at}
use Rattle.vlt_flow.proofs.OfNotes.Noting.{lacks_left, lacks_right, listing_lacks, arming_lacks}
use Rattle.vlt_flow.proofs.Unfitting.{unlisted_handed, unlisted_through}
use Rattle.vlt_flow.proofs.notes.listing.+noting.Goals as goal

pub note_list-loop-s-init : goal.note_list-loop-s-init
note_list-loop-s-init t c = (listing_first _ _ _ _, λ l. l)

pub note_list-loop-s-preserved : goal.note_list-loop-s-preserved
note_list-loop-s-preserved t c =
    let lt : c.loop-s.s-index < length c.args.stmts.now = omega arith in
    (listing_more _ _ _ _ _ _ _ _ c.s-item.result _ (split_at _ _ _ lt c.s-item.is) c.loop-s.invariant.0 c.in_ok-at.ensures.noted c.in_ok-at.ensures.at, λ l. c.in_ok-at.ensures.order (c.loop-s.invariant.1 l))

pub note_list-returns-clause-noted : goal.note_list-returns-clause-noted
note_list-returns-clause-noted t c = listing_ends _ _ _ _ _ _ _ (omega (arith, c.loop-s-test.false)) c.loop-s.invariant.0

pub note_list-returns-clause-at : goal.note_list-returns-clause-at
note_list-returns-clause-at t c = listing_at _ _ _ _ _ _ _ (omega (arith, c.loop-s-test.false)) c.loop-s.invariant.0

pub note_list-note_form-requires : goal.note_list-note_form-requires
note_list-note_form-requires t c =
    let lt : c.loop-s.s-index < length c.args.stmts.now = omega arith in
    let split = split_at _ _ _ lt c.s-item.is in
    (omega (arith, c.decreases, listing_small _ _ _ _ _ _ _ c.s-item.result split c.loop-s.invariant.0), listing_long _ _ _ _ _ _ _ c.s-item.result split c.requires.room c.loop-s.invariant.0)

pub note_arms-loop-arm-init : goal.note_arms-loop-arm-init
note_arms-loop-arm-init t c = (arming_first _ _ _ _, λ l. l)

pub note_arms-loop-arm-preserved : goal.note_arms-loop-arm-preserved
note_arms-loop-arm-preserved t c =
    let lt : c.loop-arm.arm-index < length c.args.arms.now = omega arith in
    (arming_more _ _ _ _ _ _ _ _ c.arm-item.result _ (split_at _ _ _ lt c.arm-item.is) c.loop-arm.invariant.0 c.in_ok-at.ensures.noted c.in_ok-at.ensures.at, λ l. c.in_ok-at.ensures.order (c.loop-arm.invariant.1 l))

pub note_arms-returns-clause-noted : goal.note_arms-returns-clause-noted
note_arms-returns-clause-noted t c = arming_ends _ _ _ _ _ _ _ (omega (arith, c.loop-arm-test.false)) c.loop-arm.invariant.0

pub note_arms-returns-clause-at : goal.note_arms-returns-clause-at
note_arms-returns-clause-at t c = arming_at _ _ _ _ _ _ _ (omega (arith, c.loop-arm-test.false)) c.loop-arm.invariant.0

pub note_arms-note_block-requires : goal.note_arms-note_block-requires
note_arms-note_block-requires t c =
    let lt : c.loop-arm.arm-index < length c.args.arms.now = omega arith in
    let split = split_at _ _ _ lt c.arm-item.is in
    (omega (arith, c.decreases, arming_small _ _ _ _ _ _ _ c.arm-item.result split c.loop-arm.invariant.0), arming_long _ _ _ _ _ _ _ c.arm-item.result split c.requires.room c.loop-arm.invariant.0)

pub note_form-returns-in_ok-m-in-If-clause-noted : goal.note_form-returns-in_ok-m-in-If-clause-noted
note_form-returns-in_ok-m-in-If-clause-noted t c =
    let k = c.args.kept.now in
    let a = block_view c.in-If.then_block in
    let b = block_view c.in-If.else_block in
    let own = rw (c.either.ensures, c.passes_block-first.ensures, c.passes_block-second.ensures) at c.in_ok-note_join-in-If.ensures.noted in
    let front = noted_more k _ _ _ _ _ own c.in_ok-m-in-If.ensures.noted in
    rw (if_form _ _ _ _ c.in-If.is) (on_more c.note_block-in-If.result
    (IsNoted k (noted_block c.in_ok-m-in-If.m b) c.note_block.new.notes c.note_block-in-If.new.notes)
    (IsNoted k (noted c.args.n (choose (rows_view c.in-If.rows) a b)) c.args.notes.now c.note_block-in-If.new.notes)
    (λ q. noted_more k _ _ _ _ _ front (subst (λ m. IsNoted k (noted_block m b) c.note_block.new.notes c.note_block-in-If.new.notes) c.in_ok-m-in-If.ensures.at q))
    c.note_block-in-If.ensures.noted)

pub note_form-returns-in_ok-note_loop-in-While-clause-noted : goal.note_form-returns-in_ok-note_loop-in-While-clause-noted
note_form-returns-in_ok-note_loop-in-While-clause-noted t c =
    let k = c.args.kept.now in
    let a = block_view c.in-While.body in
    rw (while_form _ _ _ c.in-While.is) (on_more c.note_block-in-While.result
    (IsNoted k (noted_block (c.args.n + 1) a) c.note_loop.new.notes c.note_block-in-While.new.notes)
    (IsNoted k (noted c.args.n (loop (rows_view c.in-While.rows) a)) c.args.notes.now c.note_block-in-While.new.notes)
    (λ q. noted_more k _ _ _ _ _ c.in_ok-note_loop-in-While.ensures.noted q) c.note_block-in-While.ensures.noted)

pub note_form-returns-in_ok-note_join-in-Switch-clause-noted : goal.note_form-returns-in_ok-note_join-in-Switch-clause-noted
note_form-returns-in_ok-note_join-in-Switch-clause-noted t c =
    let k = c.args.kept.now in
    let own = rw (c.passes_arms.ensures, c.as_slice.ensures) at c.in_ok-note_join-in-Switch.ensures.noted in
    let arms = rw c.as_slice-in-Switch.ensures at c.note_arms.ensures.noted in
    rw (switch_form _ _ _ _ c.in-Switch.is) (on_more c.note_arms.result
    (IsNoted k (noted_arms (c.args.n + 1) (arms_view c.in-Switch.arms)) c.note_join-in-Switch.new.notes c.note_arms.new.notes)
    (IsNoted k (noted c.args.n (switch (rows_view c.in-Switch.rows) (arms_view c.in-Switch.arms) c.in-Switch.end)) c.args.notes.now c.note_arms.new.notes)
    (λ q. noted_more k _ _ _ _ _ own q) arms)

-- ---- notes that are lacking

pub note_list-returns-in_err-at-clause-unfit : goal.note_list-returns-in_err-at-clause-unfit
note_list-returns-in_err-at-clause-unfit t c =
    let lt : c.loop-s.s-index < length c.args.stmts.now = omega arith in
    unlisted_handed _ _ _ c.from_residual.ensures.1 c.in_err-at.was (λ l. listing_lacks _ _ _ _ _ _ _ _ _ c.s-item.result (split_at _ _ _ lt c.s-item.is) c.loop-s.invariant.0 l) c.note_form.ensures.unfit

pub note_arms-returns-in_err-at-clause-unfit : goal.note_arms-returns-in_err-at-clause-unfit
note_arms-returns-in_err-at-clause-unfit t c =
    let lt : c.loop-arm.arm-index < length c.args.arms.now = omega arith in
    unlisted_handed _ _ _ c.from_residual.ensures.1 c.in_err-at.was (λ l. arming_lacks _ _ _ _ _ _ _ _ _ c.arm-item.result (split_at _ _ _ lt c.arm-item.is) c.loop-arm.invariant.0 l) c.note_block.ensures.unfit

pub note_form-returns-in_err-m-in-If-clause-unfit : goal.note_form-returns-in_err-m-in-If-clause-unfit
note_form-returns-in_err-m-in-If-clause-unfit t c =
    let a = block_view c.in-If.then_block in
    let b = block_view c.in-If.else_block in
    rw (if_form _ _ _ _ c.in-If.is) (unlisted_handed _ _ _ c.from_residual-in_err-m-in-If.ensures.1 c.in_err-m-in-If.was
    (λ l. lacks_left _ _ _ ((if passes_block a || passes_block b then a_join c.args.n ∷ [] else []) ++ noted_block (c.args.n + 1) a) _ (lacks_right _ _ _ (if passes_block a || passes_block b then a_join c.args.n ∷ [] else []) (noted_block (c.args.n + 1) a) l)) c.note_block.ensures.unfit)

pub note_form-returns-in_ok-m-in-If-clause-unfit : goal.note_form-returns-in_ok-m-in-If-clause-unfit
note_form-returns-in_ok-m-in-If-clause-unfit t c =
    let a = block_view c.in-If.then_block in
    let b = block_view c.in-If.else_block in
    rw (if_form _ _ _ _ c.in-If.is) (unlisted_through _
    (λ l. lacks_right _ _ _ ((if passes_block a || passes_block b then a_join c.args.n ∷ [] else []) ++ noted_block (c.args.n + 1) a) _ (subst (λ m. LacksNote c.args.counts.keys c.args.counts.vars c.args.kept.now (noted_block m b)) c.in_ok-m-in-If.ensures.at l)) c.note_block-in-If.ensures.unfit)
