use Rattle.std.proofs.Common.{◌≡◌, ◌<◌, ◌≤◌, ◌+◌, length, refl, sym, ap, subst, inl, inr, ⊎_elim, arith}
use Rattle.vlt_core.specs.Flow.{end_of}
use Rattle.vlt_core.specs.Faults.{spots_block}
use Rattle.vlt_core.specs.Witness.{choice}
use Rattle.vlt_core.specs.HeldView.{toks_of}
use Rattle.vlt_core.specs.FaultView.{pick_of}
use Rattle.vlt_rows.specs.FlowView.{block_view, stmts_view, arm_view, arms_view, rows_view}
use Rattle.vlt_rows.specs.declared.tree.FlowBlock.{out-FlowBlock}
use Rattle.vlt_rows.specs.declared.tree.FlowArm.{out-FlowArm}
use Rattle.vlt_rows.proofs.Views.{step_form, if_form, while_form, switch_form, scope_form, focus_form, return_form, jump_form, block_parts, arm_parts}
use Rattle.vlt_faults.proofs.OfFinding.Sweeps.{split_at}
use Rattle.vlt_witness.proofs.search.+search.Goals as goal
use Rattle.vlt_witness.specs.declared.search.Jumps.{Jumps}
use Rattle.vlt_witness.specs.declared.search.Went.{Went}
use Rattle.vlt_witness.specs.Parts.{SearchedBlock, SearchedWay, SearchesForm, SearchesBlock, LargeBlock, LargeArms}
use Rattle.vlt_witness.proofs.Large.{passed_on, answered, choose_rows, choose_first, choose_second, turn_rows, loop_turn, switch_rows, switch_arms, arm_rows, focus_rows, focus_body, block_stmts, large_stmt, large_arm, many_arms}
use Rattle.vlt_witness.proofs.Runs.{searched_way, listing_more, listing_ends, arming_more, arming_ends}
use Rattle.vlt_witness.proofs.Between.{step_searched, choose_searched, switch_searched, arm_searched, focus_searched, block_searched, scope_searched, turn_searched, loop_searched}

pub search_way-returns : goal.search_way-returns
search_way-returns t c =
    let a = c.args.aim in
    let s = block_view c.args.block.now in
    let j = c.args.jumps.now in
    let i = c.search_block.new.jumps in
    let m = c.args.met.now in
    let o = c.search_block.new.met in
    let x = c.in_ok-picked.picked in
    answered (SearchedBlock a c.args.number s x j i m o) (SearchedWay a c.args.at c.args.pick c.args.number s c.args.ways.now j i m o) c.search_block.result
    (λ r b. searched_way a (choice c.args.at (pick_of c.args.pick)) c.args.number s c.args.ways.now x j i m o r c.in_ok-picked.ensures b) (λ h. h) c.search_block.ensures

pub search_if-returns : goal.search_if-returns
search_if-returns t c =
    let rs = rows_view c.args.rows.now in
    let u = block_view c.args.then_block.now in
    let v = block_view c.args.else_block.now in
    let end : end_of v ≡ (out-FlowBlock c.args.else_block.now).end = ap end_of (block_parts c.args.else_block.now) in
    let first = rw c.as_slice.ensures at c.in_ok-first.ensures in
    let second = rw c.as_slice-2.ensures at c.in_ok-second.ensures in
    let came = rw (← end) at c.arrive.ensures in
    choose_searched c.args.aim c.args.at c.args.number rs u v c.args.ways c.args.jumps.now c.search_way.new.jumps c.search_way-2.new.jumps c.args.met.now c.pass_rows.new.met c.search_way.new.met c.search_way-2.new.met c.arrive.new.met
    c.in_ok-passed.passed c.in_ok-first.first c.in_ok-second.second c.in_ok-went.went c.in_ok-passed.ensures c.arrive.result first second c.in_ok-went.ensures came

pub search_turn-returns : goal.search_turn-returns
search_turn-returns t c =
    let i : Jumps = record { breaks = c.in_ok-begun.begun.leave; continues = c.new.result } in
    let way = rw c.as_slice.ensures at c.in_ok-end.ensures in
    turn_searched c.args.aim c.args.at c.args.number (rows_view c.args.rows.now) (block_view c.args.body.now) i c.search_way.new.jumps c.new-met.result c.begin_turn.new.met c.search_way.new.met c.in_ok-begun.begun c.in_ok-end.end c.end_turn.result
    c.new-met.ensures c.in_ok-begun.ensures refl c.new.ensures way c.end_turn.ensures

pub search_while-returns : goal.search_while-returns
search_while-returns t c = λ j.
    let s = block_view c.args.body.now in
    let end : end_of s ≡ (out-FlowBlock c.args.body.now).end = ap end_of (block_parts c.args.body.now) in
    let left = rw (c.as_slice.ensures, ← end) at c.leave_loop.ensures in
    loop_searched c.args.aim c.args.at c.args.number (rows_view c.args.rows.now) s c.args.ways j c.args.met.now c.leave_loop.new.met c.in_ok-turned.turned c.leave_loop.result c.in_ok-turned.ensures left

pub search_switch-returns : goal.search_switch-returns
search_switch-returns t c =
    let inside = rw c.as_slice.ensures at c.in_ok-went.ensures in
    switch_searched c.args.aim c.args.at c.args.number (rows_view c.args.rows.now) (arms_view c.args.arms.now) c.args.end c.args.ways c.args.jumps.now c.search_arms.new.jumps c.args.met.now c.pass_rows.new.met c.search_arms.new.met c.arrive.new.met
    c.in_ok-passed.passed c.in_ok-went.went c.arrive.result c.in_ok-passed.ensures inside c.arrive.ensures

pub search_arm-returns : goal.search_arm-returns
search_arm-returns t c =
    let rs = (arm_view c.args.arm.now).0 in
    let s = (arm_view c.args.arm.now).1 in
    let parts = arm_parts c.args.arm.now in
    let rows : rs ≡ rows_view (out-FlowArm c.args.arm.now).rows = ap (λ p. p.0) parts in
    let body : s ≡ block_view (out-FlowArm c.args.arm.now).body = ap (λ p. p.1) parts in
    let entered = rw (c.as_slice-rows.ensures, ← rows) at c.in_ok-entered.ensures in
    let inside = rw (← body) at c.search_block.ensures in
    arm_searched c.args.aim c.args.at c.args.number c.args.position rs s c.args.ways.now c.args.jumps.now c.search_block.new.jumps c.args.met.now c.enter_arm.new.met c.search_block.new.met
    c.in_ok-entered.entered c.search_block.result entered inside

pub search_arms-returns : goal.search_arms-returns
search_arms-returns t c =
    let l = c.loop-position in
    let r : Went = record { next = l.next; number = l.spot } in
    let past : length c.args.arms.now ≤ l.position = omega (arith, c.loop-position-test.false) in
    arming_ends c.args.aim c.args.arms.now c.args.at c.args.number c.args.ways.now c.args.jumps.now c.args.met.now l.position l.spot l.next l.jumps l.met r past l.invariant refl refl

pub search_focus-returns : goal.search_focus-returns
search_focus-returns t c = λ j.
    let s = block_view c.args.body.now in
    let end : end_of s ≡ (out-FlowBlock c.args.body.now).end = ap end_of (block_parts c.args.body.now) in
    let left = rw (← end) at c.pass_rows-2.ensures in
    focus_searched c.args.aim c.args.at c.args.number (rows_view c.args.rows.now) s (rows_view c.args.after.now) c.args.ways j c.no_jumps-out.result c.search_block.new.jumps c.args.met.now c.pass_rows.new.met c.search_block.new.met c.pass_rows-2.new.met
    c.in_ok-passed.passed c.in_ok-end.end c.pass_rows-2.result c.in_ok-passed.ensures c.in_ok-end.ensures left

pub search_block-returns : goal.search_block-returns
search_block-returns t c =
    let b = out-FlowBlock c.args.block.now in
    let inside = rw c.as_slice.ensures at c.in_ok-end.ensures in
    let left = rw c.as_slice-left.ensures at c.leave.ensures in
    let made = block_searched c.args.aim c.args.number (stmts_view b.stmts) (toks_of b.bound) b.end c.args.ways c.args.jumps.now c.search_list.new.jumps c.args.met.now c.search_list.new.met c.leave.new.met c.in_ok-end.end c.leave.result inside left in
    subst (λ s. SearchesBlock c.args.aim c.args.number s c.args.ways c.args.jumps.now c.search_list.new.jumps c.args.met.now c.leave.new.met c.leave.result) (sym (block_parts c.args.block.now)) made

pub search_list-returns : goal.search_list-returns
search_list-returns t c =
    let l = c.loop-s in
    let r : Went = record { next = l.next; number = l.spot } in
    let past : length c.args.stmts.now ≤ l.s-index = omega (arith, c.loop-s-test.false) in
    listing_ends c.args.aim c.args.stmts.now c.args.number c.args.ways c.args.jumps.now c.args.met.now l.s-index l.spot l.next l.jumps l.met r past l.invariant refl refl

pub search_list-loop-s-preserved : goal.search_list-loop-s-preserved
search_list-loop-s-preserved t c =
    let l = c.loop-s in
    let lt : l.s-index < length c.args.stmts.now = omega (arith, c.loop-s-test.true) in
    let split = split_at c.args.stmts.now l.s-index c.s-item.result lt c.s-item.is in
    listing_more c.args.aim c.args.stmts.now c.args.number c.args.ways c.args.jumps.now c.args.met.now l.s-index l.spot l.next l.jumps l.met c.s-item.result c.search_form.new.jumps c.search_form.new.met c.in_ok-went.went split l.invariant c.in_ok-went.ensures

pub search_arms-loop-position-preserved : goal.search_arms-loop-position-preserved
search_arms-loop-position-preserved t c =
    let l = c.loop-position in
    let lt : l.position < length c.args.arms.now = omega (arith, c.loop-position-test.true) in
    let x = c.index-arms-position.result in
    let split = split_at c.args.arms.now l.position x lt c.index-arms-position.is in
    let joined = rw c.as_slice.ensures at c.in_ok-join.ensures in
    arming_more c.args.aim c.args.arms.now c.args.at c.args.number c.args.ways.now c.args.jumps.now c.args.met.now l.position l.spot l.next l.jumps l.met x c.search_arm.new.jumps c.search_arm.new.met c.in_ok-end.end c.join.new.list split l.invariant c.in_ok-end.ensures joined

pub search_form-returns-in-Step : goal.search_form-returns-in-Step
search_form-returns-in-Step t c =
    let j = c.args.jumps.now in
    let inside = rw c.as_slice.ensures at c.pass_rows.ensures in
    subst (λ f. SearchesForm c.args.aim c.args.at c.args.number f c.args.ways j j c.args.met.now c.pass_rows.new.met c.pass_rows.result) (sym (step_form c.args.form.now c.in-Step.rows c.in-Step.is))
    (step_searched c.args.aim c.args.at c.args.number (rows_view c.in-Step.rows) c.args.ways j c.args.met.now c.pass_rows.new.met c.pass_rows.result inside)

pub search_form-returns-in-If : goal.search_form-returns-in-If
search_form-returns-in-If t c =
    let inside = rw c.as_slice-in-If.ensures at c.search_if.ensures in
    subst (λ f. SearchesForm c.args.aim c.args.at c.args.number f c.args.ways c.args.jumps.now c.search_if.new.jumps c.args.met.now c.search_if.new.met c.search_if.result) (sym (if_form c.args.form.now c.in-If.rows c.in-If.then_block c.in-If.else_block c.in-If.is)) inside

pub search_form-returns-in-While : goal.search_form-returns-in-While
search_form-returns-in-While t c =
    let j = c.args.jumps.now in
    let inside = rw c.as_slice-in-While.ensures at c.search_while.ensures in
    subst (λ f. SearchesForm c.args.aim c.args.at c.args.number f c.args.ways j j c.args.met.now c.search_while.new.met c.search_while.result) (sym (while_form c.args.form.now c.in-While.rows c.in-While.body c.in-While.is)) (inside j)

pub search_form-returns-in-Switch : goal.search_form-returns-in-Switch
search_form-returns-in-Switch t c =
    let inside = rw (c.as_slice-in-Switch.ensures, c.as_slice-in-Switch-2.ensures) at c.search_switch.ensures in
    subst (λ f. SearchesForm c.args.aim c.args.at c.args.number f c.args.ways c.args.jumps.now c.search_switch.new.jumps c.args.met.now c.search_switch.new.met c.search_switch.result) (sym (switch_form c.args.form.now c.in-Switch.rows c.in-Switch.arms c.in-Switch.end c.in-Switch.is)) inside

pub search_form-returns-in-Scope : goal.search_form-returns-in-Scope
search_form-returns-in-Scope t c =
    let a = c.args.aim in
    let s = block_view c.in-Scope.body in
    let j = c.args.jumps.now in
    let i = c.search_block.new.jumps in
    let m = c.args.met.now in
    let o = c.search_block.new.met in
    subst (λ f. SearchesForm a c.args.at c.args.number f c.args.ways j i m o c.search_block.result) (sym (scope_form c.args.form.now c.in-Scope.body c.in-Scope.is))
    (scope_searched a c.args.at c.args.number s c.args.ways j i m o c.search_block.result c.search_block.ensures)

pub search_form-returns-in-Focus : goal.search_form-returns-in-Focus
search_form-returns-in-Focus t c =
    let j = c.args.jumps.now in
    let inside = rw (c.as_slice-in-Focus.ensures, c.as_slice-in-Focus-2.ensures) at c.search_focus.ensures in
    subst (λ f. SearchesForm c.args.aim c.args.at c.args.number f c.args.ways j j c.args.met.now c.search_focus.new.met c.search_focus.result) (sym (focus_form c.args.form.now c.in-Focus.rows c.in-Focus.body c.in-Focus.after c.in-Focus.is)) (inside j)

pub search_form-returns-in-Return : goal.search_form-returns-in-Return
search_form-returns-in-Return t c =
    let j = c.args.jumps.now in
    let inside = rw c.as_slice-in-Return.ensures at c.search_return.ensures in
    subst (λ f. SearchesForm c.args.aim c.args.at c.args.number f c.args.ways j j c.args.met.now c.search_return.new.met c.search_return.result) (sym (return_form c.args.form.now c.in-Return.rows c.in-Return.is)) (inside j)

pub search_form-returns-in-Jump : goal.search_form-returns-in-Jump
search_form-returns-in-Jump t c =
    let inside = rw c.as_slice-in-Jump.ensures at c.search_jump.ensures in
    subst (λ f. SearchesForm c.args.aim c.args.at c.args.number f c.args.ways c.args.jumps.now c.search_jump.new.jumps c.args.met.now c.search_jump.new.met c.search_jump.result) (sym (jump_form c.args.form.now c.in-Jump.continues c.in-Jump.left c.in-Jump.is)) inside

-- ---- what isn't searched

pub search_if-returns-in_err-passed : goal.search_if-returns-in_err-passed
search_if-returns-in_err-passed t c =
    passed_on _ _ _ c.from_residual.ensures.1 c.in_err-passed.ensures
    (λ h. choose_rows c.args.number (rows_view c.args.rows.now) (block_view c.args.then_block.now) (block_view c.args.else_block.now) h)

pub search_if-returns-in_err-first : goal.search_if-returns-in_err-first
search_if-returns-in_err-first t c =
    let u = block_view c.args.then_block.now in
    passed_on _ _ _ c.from_residual-in_err-first.ensures.1 c.in_err-first.ensures
    (λ h. choose_first c.args.number (rows_view c.args.rows.now) u (block_view c.args.else_block.now) (subst (λ n. LargeBlock n u) c.in_ok-passed.ensures.number h))

pub search_if-returns-in_err-second : goal.search_if-returns-in_err-second
search_if-returns-in_err-second t c =
    let rs = rows_view c.args.rows.now in
    let u = block_view c.args.then_block.now in
    let v = block_view c.args.else_block.now in
    let n1 : c.in_ok-passed.passed.number ≡ c.args.number + length rs = c.in_ok-passed.ensures.number in
    let n2 : c.in_ok-first.first.number ≡ c.in_ok-passed.passed.number + spots_block u = c.in_ok-first.ensures.number in
    let n3 : c.in_ok-first.first.number ≡ c.args.number + length rs + spots_block u = omega (arith, n1, n2) in
    passed_on _ _ _ c.from_residual-in_err-second.ensures.1 c.in_err-second.ensures (λ h. choose_second c.args.number rs u v (subst (λ n. LargeBlock n v) n3 h))

pub search_turn-returns-in_err-begun : goal.search_turn-returns-in_err-begun
search_turn-returns-in_err-begun t c =
    passed_on _ _ _ c.from_residual.ensures.1 c.in_err-begun.ensures
    (λ h. turn_rows c.args.number (rows_view c.args.rows.now) (block_view c.args.body.now) h)

pub search_turn-returns-in_err-end : goal.search_turn-returns-in_err-end
search_turn-returns-in_err-end t c =
    let s = block_view c.args.body.now in
    passed_on _ _ _ c.from_residual-in_err-end.ensures.1 c.in_err-end.ensures (λ h. subst (λ n. LargeBlock n s) c.in_ok-begun.ensures.number h)

pub search_while-returns-in_err-turned : goal.search_while-returns-in_err-turned
search_while-returns-in_err-turned t c = λ j.
    passed_on _ _ _ c.from_residual.ensures.1 c.in_err-turned.ensures
    (λ h. loop_turn c.args.number (rows_view c.args.rows.now) (block_view c.args.body.now) h)

pub search_switch-returns-in_err-passed : goal.search_switch-returns-in_err-passed
search_switch-returns-in_err-passed t c =
    passed_on _ _ _ c.from_residual.ensures.1 c.in_err-passed.ensures
    (λ h. switch_rows c.args.number (rows_view c.args.rows.now) (arms_view c.args.arms.now) c.args.end h)

pub search_switch-returns-in_err-went : goal.search_switch-returns-in_err-went
search_switch-returns-in_err-went t c =
    let arms = arms_view c.args.arms.now in
    passed_on _ _ _ c.from_residual-in_err-went.ensures.1 c.in_err-went.ensures
    (λ h. switch_arms c.args.number (rows_view c.args.rows.now) arms c.args.end (subst (λ n. LargeArms n arms) c.in_ok-passed.ensures.number h))

pub search_arm-returns-in_err-entered : goal.search_arm-returns-in_err-entered
search_arm-returns-in_err-entered t c =
    let rs = (arm_view c.args.arm.now).0 in
    let rows : rs ≡ rows_view (out-FlowArm c.args.arm.now).rows = ap (λ p. p.0) (arm_parts c.args.arm.now) in
    let wide = ap length rows in
    let long = ap length (ap rows_view c.as_slice-rows.ensures) in
    passed_on _ _ _ c.from_residual.ensures.1 c.in_err-entered.ensures
    (⊎_elim (λ h. inl h) (λ h. inr (arm_rows c.args.number rs (arm_view c.args.arm.now).1 (omega (arith, h, wide, long)))))

pub search_arms-returns-in_err-end : goal.search_arms-returns-in_err-end
search_arms-returns-in_err-end t c =
    let l = c.loop-position in
    let lt : l.position < length c.args.arms.now = omega (arith, c.loop-position-test.true) in
    let x = c.index-arms-position.result in
    let split = split_at c.args.arms.now l.position x lt c.index-arms-position.is in
    passed_on _ _ _ c.from_residual.ensures.1 c.in_err-end.ensures
    (⊎_elim (λ h. many_arms c.args.arms.now l.position c.args.number lt h) (λ h. large_arm c.args.arms.now l.position c.args.number l.spot x split l.invariant.number h))

pub search_focus-returns-in_err-passed : goal.search_focus-returns-in_err-passed
search_focus-returns-in_err-passed t c = λ j.
    passed_on _ _ _ c.from_residual.ensures.1 c.in_err-passed.ensures
    (λ h. focus_rows c.args.number (rows_view c.args.rows.now) (block_view c.args.body.now) (rows_view c.args.after.now) h)

pub search_focus-returns-in_err-end : goal.search_focus-returns-in_err-end
search_focus-returns-in_err-end t c = λ j.
    let s = block_view c.args.body.now in
    passed_on _ _ _ c.from_residual-in_err-end.ensures.1 c.in_err-end.ensures
    (λ h. focus_body c.args.number (rows_view c.args.rows.now) s (rows_view c.args.after.now) (subst (λ n. LargeBlock n s) c.in_ok-passed.ensures.number h))

pub search_block-returns-in_err-end : goal.search_block-returns-in_err-end
search_block-returns-in_err-end t c =
    let b = out-FlowBlock c.args.block.now in
    passed_on _ _ _ c.from_residual.ensures.1 (rw c.as_slice.ensures at c.in_err-end.ensures)
    (λ h. subst (LargeBlock c.args.number) (sym (block_parts c.args.block.now)) (block_stmts c.args.number (stmts_view b.stmts) (toks_of b.bound) b.end h))

pub search_list-returns-in_err-went : goal.search_list-returns-in_err-went
search_list-returns-in_err-went t c =
    let l = c.loop-s in
    let lt : l.s-index < length c.args.stmts.now = omega (arith, c.loop-s-test.true) in
    let split = split_at c.args.stmts.now l.s-index c.s-item.result lt c.s-item.is in
    passed_on _ _ _ c.from_residual.ensures.1 c.in_err-went.ensures
    (λ h. large_stmt c.args.stmts.now l.s-index c.args.number l.spot c.s-item.result split l.invariant.number h)
