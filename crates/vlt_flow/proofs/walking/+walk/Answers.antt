use Rattle.std.proofs.Common.{ℕ, List, map, Option, Result, Ok, Err, ◌≡◌, ◌<◌, ◌+◌, length, arith, sym, ap, ◌∙◌, true≢false, Some}
use Rattle.std.proofs.lemmas.Result.{IfOk-weaker}
use Rattle.std.specs.Prelude.{IfOk}
use Rattle.vlt_core.specs.Core.{Tok}
use Rattle.vlt_core.specs.Maps.{HeldMap, away_row, Row}
use Rattle.vlt_core.specs.Flow.{Block, block, Stmts, scope, focus, size, size_block, size_stmts, size_arms}
use Rattle.vlt_rows.specs.declared.tree.FlowBlock.{out-FlowBlock}
use Rattle.vlt_flow_maps.specs.declared.ends.Walked.{Walked}
use Rattle.vlt_flow.specs.Walks.{IsWalked, form_part, block_part, stmts_part}
use Rattle.vlt_flow_maps.specs.Kept.{Marks, slot}
use Rattle.vlt_flow_maps.specs.Passed.{Passes, IsLeft}
use Rattle.vlt_core.specs.HeldView.{toks_of}
use Rattle.vlt_rows.specs.FlowView.{block_view, arms_view, stmts_view, rows_view}
use Rattle.vlt_rows.proofs.Views.{block_parts, step_form, if_form, while_form, switch_form, scope_form, focus_form, return_form, jump_form}
use Rattle.vlt_flow_maps.specs.declared.errors.Halt.{Halt}
use Rattle.vlt_keyset.specs.Held.{Statuses, map_of}
use Rattle.vlt_flow_maps.proofs.Passing.{handed, refused_through, split_at}
use Rattle.vlt_flow.proofs.Framing.{room_frame, room_part, room_put}
use Rattle.vlt_flow.proofs.Parts.{ways_there, step_walked, step_none, return_walked, return_none, jump_walked, jump_none, focus_walked, focus_rows_none, focus_body_none, focus_end_none, scope_walked, scope_none, block_walked, block_list_none, block_end_none, way_passes_none, way_passes_some, way_none, way_some, way_body_none, way_join_none, choose_walked, choose_rows_none, choose_first_none, choose_second_none, switch_walked, switch_rows_none, switch_arms_none}
use Rattle.vlt_flow.proofs.Turning.{room_inside, turn_none, turn_some, turn_rows_none, turn_exit_none, turn_body_none, turn_back_none, turning_first, turning_more, turning_stops, turning_some, turning_room, turned, gap_less, loop_walked, loop_turns_none, arming_first, arming_room, arming_more, arming_ends, arming_at, arming_passes, arming_rows_none, arming_way_none, listing_first, listing_room, listing_more, listing_ends, listing_at, listing_none, listing_small, arming_small}
use Rattle.vlt_flow.proofs.walking.+walk.Goals as goal

ok_block : (r : Result Walked Halt) (l : Option ℕ) (n : ℕ) (ss : Stmts) (bound : List Tok) (end : ℕ) (h : HeldMap) (x y : Marks) (o : Option Statuses) → IsWalked (stmts_part l n ss) l n (n + size_stmts ss) h x y o → IfOk r (λ w. IsLeft (map away_row bound) o w.held) → IfOk r (λ w. IsWalked (block_part l n (block ss bound end)) l n (n + size_stmts ss) h x y w.held)
ok_block (Ok w) l n ss bound end h x y o p q = block_walked l n ss bound end h x y o w.held p q
ok_block (Err e) l n ss bound end h x y o p q = q

ok_scope : (r : Result Walked Halt) (l : Option ℕ) (n : ℕ) (s : Block) (h : HeldMap) (x y : Marks) → IfOk r (λ w. IsWalked (block_part l (n + 1) s) l (n + 1) (n + 1 + size_block s) h x y w.held) → IfOk r (λ w. IsWalked (form_part l n (scope s)) l n (n + (1 + size_block s)) h x y w.held)
ok_scope (Ok w) l n s h x y q = scope_walked l n s h x y w.held q
ok_scope (Err e) l n s h x y q = q

ok_focus : (r : Result Walked Halt) (l : Option ℕ) (n : ℕ) (rs : List Row) (s : Block) (es : List Row) (h : HeldMap) (xs : Statuses) (x y : Marks) (o : Option Statuses) → Passes rs h (map_of xs) → IsWalked (block_part l (n + 1) s) l (n + 1) (n + 1 + size_block s) (map_of xs) x y o → IfOk r (λ w. IsLeft es o w.held) → IfOk r (λ w. IsWalked (form_part l n (focus rs s es)) l n (n + (1 + size_block s)) h x y w.held)
ok_focus (Ok w) l n rs s es h xs x y o p b q = focus_walked l n rs s es h xs x y o w.held p b q
ok_focus (Err e) l n rs s es h xs x y o p b q = q

ok_at : (r : Result Walked Halt) (a b : ℕ) → a ≡ b → IfOk r (λ w. w.at ≡ a) → IfOk r (λ w. w.at ≡ b)
ok_at (Ok w) a b e q = q ∙ e
ok_at (Err x) a b e q = q

-- ---- ways

pub walk_way-walk_block-requires : goal.walk_way-walk_block-requires
walk_way-walk_block-requires t c = (omega (arith, c.decreases), c.requires.room.room)

pub walk_way-returns-in_err-held-clause-refused : goal.walk_way-returns-in_err-held-clause-refused
walk_way-returns-in_err-held-clause-refused t c = handed _ _ _ c.from_residual.ensures.1 c.in_err-held.was (way_body_none _ _ _ _ _ _) c.walk_block.ensures.refused

pub walk_way-returns-in-None-clause-ok : goal.walk_way-returns-in-None-clause-ok
walk_way-returns-in-None-clause-ok t c = way_none _ _ _ _ _ _ _ c.requires.room (rw c.in-None.is at c.in_ok-held.ensures.ok)

pub walk_way-returns-in-None-clause-passes : goal.walk_way-returns-in-None-clause-passes
walk_way-returns-in-None-clause-passes t c = sym (way_passes_none _ _ _ _ _ _ _ (rw c.in-None.is at c.in_ok-held.ensures.ok))

pub walk_way-returns-in_ok-join_after-in-Some-clause-ok : goal.walk_way-returns-in_ok-join_after-in-Some-clause-ok
walk_way-returns-in_ok-join_after-in-Some-clause-ok t c =
    let f = c.in_ok-join_after-in-Some.ensures in
    way_some _ _ _ _ _ _ _ _ _ c.requires.room (rw c.in-Some.is at c.in_ok-held.ensures.ok) (record { long = f.long; into = f.into; others = f.others; around = f.around })

pub walk_way-returns-in_ok-join_after-in-Some-clause-passes : goal.walk_way-returns-in_ok-join_after-in-Some-clause-passes
walk_way-returns-in_ok-join_after-in-Some-clause-passes t c = sym (way_passes_some _ _ _ _ _ _ _ _ (rw c.in-Some.is at c.in_ok-held.ensures.ok))

pub walk_way-returns-in_err-join_after-in-Some-clause-refused : goal.walk_way-returns-in_err-join_after-in-Some-clause-refused
walk_way-returns-in_err-join_after-in-Some-clause-refused t c =
    let w = rw c.in-Some.is at c.in_ok-held.ensures.ok in
    handed _ _ _ c.from_residual-in_err-join_after-in-Some.ensures.1 c.in_err-join_after-in-Some.was (way_join_none _ _ _ _ _ _ _ _ _ w) c.join_after.ensures.refused

-- ---- lists

pub walk_list-loop-s-init : goal.walk_list-loop-s-init
walk_list-loop-s-init t c = listing_first _ _ _ _ _

pub walk_list-loop-s-preserved : goal.walk_list-loop-s-preserved
walk_list-loop-s-preserved t c =
    let lt : c.loop-s.s-index < length c.args.stmts.now = omega arith in
    rw c.in_ok-flow.ensures.at (listing_more _ _ _ _ _ _ _ _ _ _ _ c.s-item.result (split_at _ _ _ lt c.s-item.is) c.requires.room c.loop-s.invariant c.in_ok-flow.ensures.ok)

pub walk_list-returns-clause-at : goal.walk_list-returns-clause-at
walk_list-returns-clause-at t c = listing_at _ _ _ _ _ _ _ _ _ (omega (arith, c.loop-s-test.false)) c.loop-s.invariant

pub walk_list-returns-clause-ok : goal.walk_list-returns-clause-ok
walk_list-returns-clause-ok t c = listing_ends _ _ _ _ _ _ _ _ _ (omega (arith, c.loop-s-test.false)) c.loop-s.invariant

pub walk_list-returns-in_err-flow-clause-refused : goal.walk_list-returns-in_err-flow-clause-refused
walk_list-returns-in_err-flow-clause-refused t c =
    let lt : c.loop-s.s-index < length c.args.stmts.now = omega arith in
    handed _ _ _ c.from_residual.ensures.1 c.in_err-flow.was (listing_none _ _ _ _ _ _ _ _ _ c.s-item.result (split_at _ _ _ lt c.s-item.is) c.loop-s.invariant) c.walk_on.ensures.refused

-- ---- blocks

pub walk_block-walk_list-requires : goal.walk_block-walk_list-requires
walk_block-walk_list-requires t c =
    let r = rw (block_parts c.args.block.now) at c.requires.room in
    (omega (arith, c.decreases, c.as_slice.ensures, ap size_block (block_parts c.args.block.now), ap (λ l. size_stmts (stmts_view l)) c.as_slice.ensures), rw c.as_slice.ensures r)

pub walk_block-returns-clause-ok : goal.walk_block-returns-clause-ok
walk_block-returns-clause-ok t c =
    let w = rw c.as_slice.ensures at c.in_ok-walked.ensures.ok in
    let q = rw c.as_slice-2.ensures at c.leave_gone.ensures.ok in
    rw (block_parts c.args.block.now) (ok_block c.leave_gone.result c.args.l c.args.n (stmts_view (out-FlowBlock c.args.block.now).stmts) (toks_of (out-FlowBlock c.args.block.now).bound) (out-FlowBlock c.args.block.now).end (map_of c.args.held) c.args.kept.now c.walk_list.new.kept c.in_ok-walked.walked.held w q)

pub walk_block-returns-clause-refused : goal.walk_block-returns-clause-refused
walk_block-returns-clause-refused t c =
    let w = rw c.as_slice.ensures at c.in_ok-walked.ensures.ok in
    let q = rw c.as_slice-2.ensures at c.leave_gone.ensures.refused in
    rw (block_parts c.args.block.now) (refused_through _ _ (λ e. e) (block_end_none _ _ _ (toks_of (out-FlowBlock c.args.block.now).bound) (out-FlowBlock c.args.block.now).end _ _ _ _ w) q)

pub walk_block-returns-clause-at : goal.walk_block-returns-clause-at
walk_block-returns-clause-at t c =
    let a = rw c.as_slice.ensures at c.in_ok-walked.ensures.at in
    rw (block_parts c.args.block.now) (ok_at c.leave_gone.result c.in_ok-walked.walked.at _ a c.leave_gone.ensures.at)

pub walk_block-returns-in_err-walked-clause-refused : goal.walk_block-returns-in_err-walked-clause-refused
walk_block-returns-in_err-walked-clause-refused t c =
    let never = rw c.as_slice.ensures at c.walk_list.ensures.refused in
    rw (block_parts c.args.block.now) (handed _ _ _ c.from_residual.ensures.1 c.in_err-walked.was (block_list_none c.args.l c.args.n (stmts_view (out-FlowBlock c.args.block.now).stmts) (toks_of (out-FlowBlock c.args.block.now).bound) (out-FlowBlock c.args.block.now).end (map_of c.args.held) c.args.kept.now) never)

-- ---- turns

pub walk_turn-returns-in_err-inside-clause-refused : goal.walk_turn-returns-in_err-inside-clause-refused
walk_turn-returns-in_err-inside-clause-refused t c =
    let never = rw c.in_ok-copy.ensures at c.pass.ensures.refused in
    handed _ _ _ c.from_residual-in_err-inside.ensures.1 c.in_err-inside.was (turn_rows_none _ _ _ _ _ c.requires.before) never

pub walk_turn-returns-in_err-join_copy_after-clause-refused : goal.walk_turn-returns-in_err-join_copy_after-clause-refused
walk_turn-returns-in_err-join_copy_after-clause-refused t c =
    let pass = rw c.in_ok-copy.ensures at c.in_ok-inside.ensures.ok in
    let never = c.join_copy_after.ensures.refused in
    handed _ _ _ c.from_residual-in_err-join_copy_after.ensures.1 c.in_err-join_copy_after.was (turn_exit_none _ _ _ _ _ _ c.requires.before pass) never

pub walk_turn-returns-in_err-held-clause-refused : goal.walk_turn-returns-in_err-held-clause-refused
walk_turn-returns-in_err-held-clause-refused t c =
    let pass = rw c.in_ok-copy.ensures at c.in_ok-inside.ensures.ok in
    let f = c.in_ok-join_copy_after.ensures in
    let into = f.into in
    handed _ _ _ c.from_residual-in_err-held.ensures.1 c.in_err-held.was (turn_body_none _ _ _ _ _ _ _ c.requires.before pass (record { long = f.long; into = into; others = f.others; around = f.around })) c.walk_block.ensures.refused

pub walk_turn-walk_block-requires : goal.walk_turn-walk_block-requires
walk_turn-walk_block-requires t c =
    let pass = rw c.in_ok-copy.ensures at c.in_ok-inside.ensures.ok in
    let f = c.in_ok-join_copy_after.ensures in
    let into = f.into in
    (omega (arith, c.decreases), room_inside _ _ _ _ _ _ c.requires.room (omega arith) c.requires.before (record { long = f.long; into = into; others = f.others; around = f.around }))

pub walk_turn-returns-in_err-join_around-in-Some-clause-refused : goal.walk_turn-returns-in_err-join_around-in-Some-clause-refused
walk_turn-returns-in_err-join_around-in-Some-clause-refused t c =
    let pass = rw c.in_ok-copy.ensures at c.in_ok-inside.ensures.ok in
    let f = c.in_ok-join_copy_after.ensures in
    let into = f.into in
    let w = rw c.in-Some.is at c.in_ok-held.ensures.ok in
    handed _ _ _ c.from_residual-in_err-join_around-in-Some.ensures.1 c.in_err-join_around-in-Some.was (turn_back_none _ _ _ _ _ _ _ _ _ _ c.requires.before pass (record { long = f.long; into = into; others = f.others; around = f.around }) w) c.join_around.ensures.refused

pub walk_turn-returns-in_ok-join_around-in-Some-clause-ok : goal.walk_turn-returns-in_ok-join_around-in-Some-clause-ok
walk_turn-returns-in_ok-join_around-in-Some-clause-ok t c =
    let pass = rw c.in_ok-copy.ensures at c.in_ok-inside.ensures.ok in
    let f = c.in_ok-join_copy_after.ensures in
    let into = f.into in
    let w = rw c.in-Some.is at c.in_ok-held.ensures.ok in
    let g = c.in_ok-join_around-in-Some.ensures in
    turn_some _ _ _ _ _ _ _ _ _ _ c.requires.room c.requires.before pass (record { long = f.long; into = into; others = f.others; around = f.around }) w (record { long = g.long; into = g.into; others = g.others; following = g.following })

pub walk_turn-returns-in-None-clause-ok : goal.walk_turn-returns-in-None-clause-ok
walk_turn-returns-in-None-clause-ok t c =
    let pass = rw c.in_ok-copy.ensures at c.in_ok-inside.ensures.ok in
    let f = c.in_ok-join_copy_after.ensures in
    let into = f.into in
    turn_none _ _ _ _ _ _ _ _ _ c.requires.before pass (record { long = f.long; into = into; others = f.others; around = f.around }) (rw c.in-None.is at c.in_ok-held.ensures.ok)

pub walk_turns-loop-before-init : goal.walk_turns-loop-before-init
walk_turns-loop-before-init t c = turning_first _ _ _ _

pub walk_turns-copy_around-requires : goal.walk_turns-copy_around-requires
walk_turns-copy_around-requires t c =
    let r = turning_room _ _ _ _ _ c.loop-before.invariant c.requires.room in
    record { within = omega (arith, r.fits); some = turning_some _ _ _ _ _ c.loop-before.invariant c.requires.some }

pub walk_turns-walk_turn-requires : goal.walk_turns-walk_turn-requires
walk_turns-walk_turn-requires t c =
    let r = turning_room _ _ _ _ _ c.loop-before.invariant c.requires.room in
    (omega (arith, c.decreases), (r, c.in_ok-before.ensures.same))

pub walk_turns-loop-before-preserved : goal.walk_turns-loop-before-preserved
walk_turns-loop-before-preserved t c = turning_more _ _ _ _ _ _ _ c.loop-before.invariant c.in_ok-at.ensures.ok

pub walk_turns-loop-before-smaller : goal.walk_turns-loop-before-smaller
walk_turns-loop-before-smaller t c =
    let never : slot c.walk_turn.new.kept.around c.args.n ≡ Some c.in_ok-before.before → ⊥ = λ e. true≢false (sym (c.is_around.ensures.1 e) ∙ c.if-is_around.false) in
    gap_less _ _ _ c.in_ok-before.ensures.same c.in_ok-at.ensures.ok.frame.loop.around never

pub walk_turns-returns-in_err-at-clause-refused : goal.walk_turns-returns-in_err-at-clause-refused
walk_turns-returns-in_err-at-clause-refused t c =
    handed _ _ _ c.from_residual-in_err-at.ensures.1 c.in_err-at.was (turning_stops _ _ _ _ _ c.loop-before.invariant) c.walk_turn.ensures.refused

pub walk_turns-returns-then-is_around-clause-ok : goal.walk_turns-returns-then-is_around-clause-ok
walk_turns-returns-then-is_around-clause-ok t c = turned _ _ _ _ _ _ _ c.requires.some c.loop-before.invariant c.in_ok-at.ensures.ok (c.is_around.ensures.0 c.if-is_around.true)

-- ---- arms

pub walk_arms-loop-arm-init : goal.walk_arms-loop-arm-init
walk_arms-loop-arm-init t c = arming_first _ _ _ _ _

pub walk_arms-loop-arm-preserved : goal.walk_arms-loop-arm-preserved
walk_arms-loop-arm-preserved t c =
    let lt : c.loop-arm.arm-index < length c.args.arms.now = omega arith in
    let pass = rw (c.as_slice.ensures, c.in_ok-copy.ensures) at c.in_ok-inside.ensures.ok in
    let more = arming_more _ _ _ _ _ _ _ _ _ _ c.arm-item.result _ (split_at _ _ _ lt c.arm-item.is) c.requires.room c.loop-arm.invariant pass c.in_ok-way.ensures.ok in
    rw (c.either-passes.ensures, c.in_ok-way.ensures.at, c.in_ok-way.ensures.passes) more

pub walk_arms-returns-clause-ok : goal.walk_arms-returns-clause-ok
walk_arms-returns-clause-ok t c = arming_ends _ _ _ _ _ _ _ _ _ (omega (arith, c.loop-arm-test.false)) c.loop-arm.invariant

pub walk_arms-returns-clause-at : goal.walk_arms-returns-clause-at
walk_arms-returns-clause-at t c = arming_at _ _ _ _ _ _ _ _ _ (omega (arith, c.loop-arm-test.false)) c.loop-arm.invariant

pub walk_arms-returns-clause-passes : goal.walk_arms-returns-clause-passes
walk_arms-returns-clause-passes t c = arming_passes _ _ _ _ _ _ _ _ _ (omega (arith, c.loop-arm-test.false)) c.loop-arm.invariant

pub walk_arms-returns-in_err-inside-clause-refused : goal.walk_arms-returns-in_err-inside-clause-refused
walk_arms-returns-in_err-inside-clause-refused t c =
    let lt : c.loop-arm.arm-index < length c.args.arms.now = omega arith in
    let never = rw (c.as_slice.ensures, c.in_ok-copy.ensures) at c.pass.ensures.refused in
    handed _ _ _ c.from_residual-in_err-inside.ensures.1 c.in_err-inside.was (arming_rows_none _ _ _ _ _ _ _ _ _ c.arm-item.result (split_at _ _ _ lt c.arm-item.is) c.loop-arm.invariant) never

pub walk_arms-returns-in_err-way-clause-refused : goal.walk_arms-returns-in_err-way-clause-refused
walk_arms-returns-in_err-way-clause-refused t c =
    let lt : c.loop-arm.arm-index < length c.args.arms.now = omega arith in
    let pass = rw (c.as_slice.ensures, c.in_ok-copy.ensures) at c.in_ok-inside.ensures.ok in
    handed _ _ _ c.from_residual-in_err-way.ensures.1 c.in_err-way.was (arming_way_none _ _ _ _ _ _ _ _ _ c.arm-item.result _ (split_at _ _ _ lt c.arm-item.is) c.loop-arm.invariant pass) c.walk_way.ensures.refused

pub walk_list-walk_on-requires : goal.walk_list-walk_on-requires
walk_list-walk_on-requires t c =
    let lt : c.loop-s.s-index < length c.args.stmts.now = omega arith in
    let split = split_at _ _ _ lt c.s-item.is in
    (omega (arith, c.decreases, listing_small _ _ _ _ _ _ _ _ _ c.s-item.result split c.loop-s.invariant), listing_room _ _ _ _ _ _ _ _ _ c.s-item.result split c.requires.room c.loop-s.invariant)

pub walk_arms-walk_way-requires : goal.walk_arms-walk_way-requires
walk_arms-walk_way-requires t c =
    let lt : c.loop-arm.arm-index < length c.args.arms.now = omega arith in
    let split = split_at _ _ _ lt c.arm-item.is in
    (omega (arith, c.decreases, arming_small _ _ _ _ _ _ _ _ _ c.arm-item.result split c.loop-arm.invariant), arming_room _ _ _ _ _ _ _ _ _ c.arm-item.result split c.requires.room c.loop-arm.invariant)

-- ---- choices

pub walk_if-walk_way-requires : goal.walk_if-walk_way-requires
walk_if-walk_way-requires t c =
    let room = c.requires.room in
    (omega (arith, c.decreases), record { room = room_part _ _ _ _ _ _ room (omega arith) (omega arith); choice = omega arith; other = room.apart c.args.n (omega arith) (omega arith) })

pub walk_if-walk_way-requires-2 : goal.walk_if-walk_way-requires-2
walk_if-walk_way-requires-2 t c =
    let room = c.requires.room in
    let first = c.in_ok-first.ensures in
    let part = room_part _ _ _ (c.args.n + 1) (c.args.n + 1 + size_block (block_view c.args.then_block.now) + size_block (block_view c.args.else_block.now)) _ room (omega arith) (omega arith) in
    let more = room_frame _ _ _ _ _ _ _ _ part first.ok.frame in
    (omega (arith, c.decreases), rw first.at (record { room = room_part _ _ _ _ _ _ more (omega arith) (omega arith); choice = omega arith; other = room.apart c.args.n (omega arith) (omega arith) }))

pub walk_if-returns-in_err-inside-clause-refused : goal.walk_if-returns-in_err-inside-clause-refused
walk_if-returns-in_err-inside-clause-refused t c = handed _ _ _ c.from_residual.ensures.1 c.in_err-inside.was (choose_rows_none _ _ _ _ _ _ _) c.pass.ensures.refused

pub walk_if-returns-in_err-first-clause-refused : goal.walk_if-returns-in_err-first-clause-refused
walk_if-returns-in_err-first-clause-refused t c = handed _ _ _ c.from_residual-in_err-first.ensures.1 c.in_err-first.was (choose_first_none _ _ _ _ _ _ _ _ c.in_ok-inside.ensures.ok) c.walk_way.ensures.refused

pub walk_if-returns-in_err-second-clause-refused : goal.walk_if-returns-in_err-second-clause-refused
walk_if-returns-in_err-second-clause-refused t c =
    let never = rw (c.in_ok-first.ensures.at, c.in_ok-other.ensures) at c.walk_way-2.ensures.refused in
    handed _ _ _ c.from_residual-in_err-second.ensures.1 c.in_err-second.was (choose_second_none _ _ _ _ _ _ _ _ _ c.in_ok-inside.ensures.ok c.in_ok-first.ensures.ok) never

pub walk_if-following-requires : goal.walk_if-following-requires
walk_if-following-requires t c =
    let room = c.requires.room in
    let first = c.in_ok-first.ensures.ok in
    let second = rw (c.in_ok-first.ensures.at, c.in_ok-other.ensures) at c.in_ok-second.ensures.ok in
    record {
      within = omega (arith, room.fits, room.long, first.frame.long_after, second.frame.long_after);
      some = λ e. ways_there _ _ _ _ _ _ _ _ _ _ _ first second (rw (c.either.ensures, c.in_ok-first.ensures.passes, c.in_ok-second.ensures.passes) at e);
    }

pub walk_if-returns-clause-ok : goal.walk_if-returns-clause-ok
walk_if-returns-clause-ok t c =
    let second = rw (c.in_ok-first.ensures.at, c.in_ok-other.ensures) at c.in_ok-second.ensures.ok in
    let place = rw (c.either.ensures, c.in_ok-first.ensures.passes, c.in_ok-second.ensures.passes) at c.following.ensures.place in
    IfOk-weaker {Y = Halt} _ _ _ (λ r q. choose_walked _ _ _ _ _ _ _ _ _ _ _ c.requires.room c.in_ok-inside.ensures.ok c.in_ok-first.ensures.ok second q) place

-- ---- forms

pub walk_form-returns-in_err-held-in-Step-clause-refused : goal.walk_form-returns-in_err-held-in-Step-clause-refused
walk_form-returns-in_err-held-in-Step-clause-refused t c =
    let never = rw c.as_slice.ensures at c.pass.ensures.refused in
    rw (step_form _ _ c.in-Step.is) (handed _ _ _ c.from_residual.ensures.1 c.in_err-held-in-Step.was (step_none c.args.l c.args.n (rows_view c.in-Step.rows) (map_of c.args.held) c.args.kept.now) never)

pub walk_form-returns-in_ok-held-in-Step-clause-ok : goal.walk_form-returns-in_ok-held-in-Step-clause-ok
walk_form-returns-in_ok-held-in-Step-clause-ok t c =
    let p = rw c.as_slice.ensures at c.in_ok-held-in-Step.ensures.ok in
    rw (step_form _ _ c.in-Step.is, c.comes.ensures.held) (step_walked _ _ _ _ _ _ p)

pub walk_form-returns-in-If-clause-ok : goal.walk_form-returns-in-If-clause-ok
walk_form-returns-in-If-clause-ok t c =
    let q = rw c.as_slice-rows.ensures at c.walk_if.ensures.ok in
    rw (if_form _ _ _ _ c.in-If.is) q

pub walk_form-walk_turns-requires : goal.walk_form-walk_turns-requires
walk_form-walk_turns-requires t c =
    let room = rw (while_form _ _ _ c.in-While.is) at c.requires.room in
    let g = c.in_ok-join_around-in-While.ensures in
    (omega (arith, c.decreases, ap size (while_form _ _ _ c.in-While.is)), (room_put _ _ _ _ _ _ room (record { long = g.long; into = g.into; others = g.others; following = g.following }), g.into.some))

pub walk_form-returns-in_err-at-in-While-clause-refused : goal.walk_form-returns-in_err-at-in-While-clause-refused
walk_form-returns-in_err-at-in-While-clause-refused t c =
    let g = c.in_ok-join_around-in-While.ensures in
    let never = rw c.as_slice-in-While.ensures at c.walk_turns.ensures.refused in
    rw (while_form _ _ _ c.in-While.is) (handed _ _ _ c.from_residual-in_err-at-in-While.ensures.1 c.in_err-at-in-While.was (loop_turns_none c.args.l c.args.n (rows_view c.in-While.rows) (block_view c.in-While.body) c.args.held c.args.kept.now _ (record { long = g.long; into = g.into; others = g.others; following = g.following })) never)

pub walk_form-copy_after-requires : goal.walk_form-copy_after-requires
walk_form-copy_after-requires t c =
    let room = rw (while_form _ _ _ c.in-While.is) at c.requires.room in
    let g = c.in_ok-join_around-in-While.ensures in
    let turned = c.in_ok-at-in-While.ensures.ok in
    record { within = omega (arith, room.fits, room.long, ap length g.following, turned.frame.long_after); some = turned.some }

pub walk_form-returns-in_ok-exit-in-While-clause-ok : goal.walk_form-returns-in_ok-exit-in-While-clause-ok
walk_form-returns-in_ok-exit-in-While-clause-ok t c =
    let room = rw (while_form _ _ _ c.in-While.is) at c.requires.room in
    let g = c.in_ok-join_around-in-While.ensures in
    let turned = rw c.as_slice-in-While.ensures at c.in_ok-at-in-While.ensures.ok in
    rw (while_form _ _ _ c.in-While.is, c.comes-in-While.ensures.held) (loop_walked _ _ _ _ _ _ _ _ _ room (record { long = g.long; into = g.into; others = g.others; following = g.following }) turned c.in_ok-exit-in-While.ensures.same)

pub walk_form-walk_arms-requires : goal.walk_form-walk_arms-requires
walk_form-walk_arms-requires t c =
    let room = rw (switch_form _ _ _ _ c.in-Switch.is) at c.requires.room in
    (omega (arith, c.decreases, ap size (switch_form _ _ _ _ c.in-Switch.is), ap (λ l. size_arms (arms_view l)) c.as_slice-in-Switch-2.ensures), rw c.as_slice-in-Switch-2.ensures (record { room = room_part _ _ _ _ _ _ room (omega arith) (omega arith); choice = omega arith; other = room.apart c.args.n (omega arith) (omega arith) }))

pub walk_form-returns-in_err-inside-in-Switch-clause-refused : goal.walk_form-returns-in_err-inside-in-Switch-clause-refused
walk_form-returns-in_err-inside-in-Switch-clause-refused t c =
    let never = rw c.as_slice-in-Switch.ensures at c.pass-in-Switch.ensures.refused in
    rw (switch_form _ _ _ _ c.in-Switch.is) (handed _ _ _ c.from_residual-in_err-inside-in-Switch.ensures.1 c.in_err-inside-in-Switch.was (switch_rows_none c.args.l c.args.n (rows_view c.in-Switch.rows) (arms_view c.in-Switch.arms) c.in-Switch.end (map_of c.args.held) c.args.kept.now) never)

pub walk_form-returns-in_err-way-in-Switch-clause-refused : goal.walk_form-returns-in_err-way-in-Switch-clause-refused
walk_form-returns-in_err-way-in-Switch-clause-refused t c =
    let p = rw c.as_slice-in-Switch.ensures at c.in_ok-inside-in-Switch.ensures.ok in
    let never = rw c.as_slice-in-Switch-2.ensures at c.walk_arms.ensures.refused in
    rw (switch_form _ _ _ _ c.in-Switch.is) (handed _ _ _ c.from_residual-in_err-way-in-Switch.ensures.1 c.in_err-way-in-Switch.was (switch_arms_none c.args.l c.args.n (rows_view c.in-Switch.rows) (arms_view c.in-Switch.arms) c.in-Switch.end (map_of c.args.held) _ c.args.kept.now p) never)

pub walk_form-following-requires : goal.walk_form-following-requires
walk_form-following-requires t c =
    let room = rw (switch_form _ _ _ _ c.in-Switch.is) at c.requires.room in
    let arms = rw c.as_slice-in-Switch-2.ensures at c.in_ok-way-in-Switch.ensures.ok in
    let passes = rw c.as_slice-in-Switch-2.ensures at c.in_ok-way-in-Switch.ensures.passes in
    record { within = omega (arith, room.fits, room.long, arms.frame.long_after); some = λ e. arms.there (sym passes ∙ e) }

pub walk_form-returns-in_ok-way-in-Switch-clause-ok : goal.walk_form-returns-in_ok-way-in-Switch-clause-ok
walk_form-returns-in_ok-way-in-Switch-clause-ok t c =
    let p = rw c.as_slice-in-Switch.ensures at c.in_ok-inside-in-Switch.ensures.ok in
    let arms = rw c.as_slice-in-Switch-2.ensures at c.in_ok-way-in-Switch.ensures.ok in
    let passes = rw c.as_slice-in-Switch-2.ensures at c.in_ok-way-in-Switch.ensures.passes in
    let place = rw passes at c.following.ensures.place in
    rw (switch_form _ _ _ _ c.in-Switch.is) (IfOk-weaker {Y = Halt} _ _ _ (λ r q. switch_walked _ _ _ _ c.in-Switch.end _ _ _ _ _ p arms q) place)

pub walk_form-walk_block-requires : goal.walk_form-walk_block-requires
walk_form-walk_block-requires t c =
    let room = rw (scope_form _ _ c.in-Scope.is) at c.requires.room in
    (omega (arith, c.decreases, ap size (scope_form _ _ c.in-Scope.is)), room_part _ _ _ _ _ _ room (omega arith) (omega arith))

pub walk_form-walk_block-requires-in-Focus : goal.walk_form-walk_block-requires-in-Focus
walk_form-walk_block-requires-in-Focus t c =
    let room = rw (focus_form _ _ _ _ c.in-Focus.is) at c.requires.room in
    (omega (arith, c.decreases, ap size (focus_form _ _ _ _ c.in-Focus.is)), room_part _ _ _ _ _ _ room (omega arith) (omega arith))

pub walk_form-returns-in-Scope-clause-ok : goal.walk_form-returns-in-Scope-clause-ok
walk_form-returns-in-Scope-clause-ok t c = rw (scope_form _ _ c.in-Scope.is) (ok_scope c.walk_block.result c.args.l c.args.n (block_view c.in-Scope.body) (map_of c.args.held) c.args.kept.now c.walk_block.new.kept c.walk_block.ensures.ok)

pub walk_form-returns-in-Scope-clause-refused : goal.walk_form-returns-in-Scope-clause-refused
walk_form-returns-in-Scope-clause-refused t c = rw (scope_form _ _ c.in-Scope.is) (refused_through _ _ (λ e. e) (scope_none _ _ _ _ _) c.walk_block.ensures.refused)

pub walk_form-returns-in_err-inside-in-Focus-clause-refused : goal.walk_form-returns-in_err-inside-in-Focus-clause-refused
walk_form-returns-in_err-inside-in-Focus-clause-refused t c =
    let never = rw c.as_slice-in-Focus.ensures at c.pass-in-Focus.ensures.refused in
    rw (focus_form _ _ _ _ c.in-Focus.is) (handed _ _ _ c.from_residual-in_err-inside-in-Focus.ensures.1 c.in_err-inside-in-Focus.was (focus_rows_none _ _ _ _ _ _ _) never)

pub walk_form-returns-in_err-walked-in-Focus-clause-refused : goal.walk_form-returns-in_err-walked-in-Focus-clause-refused
walk_form-returns-in_err-walked-in-Focus-clause-refused t c =
    let p = rw c.as_slice-in-Focus.ensures at c.in_ok-inside-in-Focus.ensures.ok in
    rw (focus_form _ _ _ _ c.in-Focus.is) (handed _ _ _ c.from_residual-in_err-walked-in-Focus.ensures.1 c.in_err-walked-in-Focus.was (focus_body_none _ _ _ _ _ _ _ _ p) c.walk_block-in-Focus.ensures.refused)

pub walk_form-returns-in_ok-walked-in-Focus-clause-ok : goal.walk_form-returns-in_ok-walked-in-Focus-clause-ok
walk_form-returns-in_ok-walked-in-Focus-clause-ok t c =
    let p = rw c.as_slice-in-Focus.ensures at c.in_ok-inside-in-Focus.ensures.ok in
    let q = rw c.as_slice-in-Focus-2.ensures at c.leave_rows.ensures.ok in
    rw (focus_form _ _ _ _ c.in-Focus.is) (ok_focus c.leave_rows.result c.args.l c.args.n (rows_view c.in-Focus.rows) (block_view c.in-Focus.body) (rows_view c.in-Focus.after) (map_of c.args.held) _ c.args.kept.now c.walk_block-in-Focus.new.kept _ p c.in_ok-walked-in-Focus.ensures.ok q)

pub walk_form-returns-in_ok-walked-in-Focus-clause-refused : goal.walk_form-returns-in_ok-walked-in-Focus-clause-refused
walk_form-returns-in_ok-walked-in-Focus-clause-refused t c =
    let p = rw c.as_slice-in-Focus.ensures at c.in_ok-inside-in-Focus.ensures.ok in
    let q = rw c.as_slice-in-Focus-2.ensures at c.leave_rows.ensures.refused in
    rw (focus_form _ _ _ _ c.in-Focus.is) (refused_through _ _ (λ e. e) (focus_end_none _ _ _ _ _ _ _ _ _ _ p c.in_ok-walked-in-Focus.ensures.ok) q)

pub walk_form-returns-in_err-_end-in-Return-clause-refused : goal.walk_form-returns-in_err-_end-in-Return-clause-refused
walk_form-returns-in_err-_end-in-Return-clause-refused t c =
    let never = rw c.as_slice-in-Return.ensures at c.pass-in-Return.ensures.refused in
    rw (return_form _ _ c.in-Return.is) (handed _ _ _ c.from_residual-in_err-_end-in-Return.ensures.1 c.in_err-_end-in-Return.was (return_none c.args.l c.args.n (rows_view c.in-Return.rows) (map_of c.args.held) c.args.kept.now) never)

pub walk_form-returns-in_ok-_end-in-Return-clause-ok : goal.walk_form-returns-in_ok-_end-in-Return-clause-ok
walk_form-returns-in_ok-_end-in-Return-clause-ok t c =
    let p = rw c.as_slice-in-Return.ensures at c.in_ok-_end-in-Return.ensures.ok in
    rw (return_form _ _ c.in-Return.is, c.stops.ensures.held) (return_walked _ _ _ _ _ _ p)

pub walk_form-returns-in_err-jump-in-Jump-clause-refused : goal.walk_form-returns-in_err-jump-in-Jump-clause-refused
walk_form-returns-in_err-jump-in-Jump-clause-refused t c =
    let never = rw c.as_slice-in-Jump.ensures at c.jump.ensures.refused in
    rw (jump_form _ _ _ c.in-Jump.is) (handed _ _ _ c.from_residual-in_err-jump-in-Jump.ensures.1 c.in_err-jump-in-Jump.was (jump_none c.args.l c.args.n c.in-Jump.continues (toks_of c.in-Jump.left) (map_of c.args.held) c.args.kept.now) never)

pub walk_form-returns-in_ok-jump-in-Jump-clause-ok : goal.walk_form-returns-in_ok-jump-in-Jump-clause-ok
walk_form-returns-in_ok-jump-in-Jump-clause-ok t c =
    let j = rw c.as_slice-in-Jump.ensures at c.in_ok-jump-in-Jump.ensures.ok in
    rw (jump_form _ _ _ c.in-Jump.is, c.stops-in-Jump.ensures.held) (jump_walked _ _ _ _ _ _ _ j)
