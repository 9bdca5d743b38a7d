use Rattle.std.proofs.Common.{◌<◌, length, arith, refl, sym}
use Rattle.std.proofs.lemmas.List.{length-map}
use Rattle.vlt_core.specs.View.{tok_of}
use Rattle.vlt_core.specs.HeldView.{row_of}
use Rattle.vlt_rows.specs.declared.tree.FlowBlock.{out-FlowBlock}
use Rattle.vlt_rows.proofs.Views.{step_form, if_form, while_form, switch_form, scope_form, focus_form, return_form, jump_form, block_parts}
use Rattle.vlt_faults.proofs.OfFinding.Sweeps.{split_at}
use Rattle.vlt_faults.proofs.OfJudge.Sums.{extent_both, extent_as, counting_first}
use Rattle.vlt_faults.proofs.OfJudge.Counts.{stmts_more, stmts_end, arms_more, arms_end}
use Rattle.vlt_faults.proofs.judge.extent.+extent.Goals as goal

pub extent_of_form-returns-in-Step : goal.extent_of_form-returns-in-Step
extent_of_form-returns-in-Step t c =
    let same = sym (length-map c.in-Step.rows row_of) in
    let q = rw c.as_slice.ensures at c.with_rows.ensures in
    rw (step_form _ _ c.in-Step.is) (extent_as _ _ _ _ _ _ _ q refl (omega (arith, same)) (λ t p. p) (λ t p. p))

pub extent_of_form-returns-in-If : goal.extent_of_form-returns-in-If
extent_of_form-returns-in-If t c =
    let same = sym (length-map c.in-If.rows row_of) in
    let own = rw c.as_slice-in-If.ensures at c.with_rows-own.ensures in
    let ways = extent_both _ _ _ _ _ _ _ _ _ c.extent_of_block-first.ensures c.extent_of_block-second.ensures c.both-ways.ensures in
    rw (if_form _ _ _ _ c.in-If.is) (extent_as _ _ _ _ _ _ _ (extent_both _ _ _ _ _ _ _ _ _ own ways c.both.ensures) refl (omega (arith, same)) (λ t p. p) (λ t p. p))

pub extent_of_form-returns-in-While : goal.extent_of_form-returns-in-While
extent_of_form-returns-in-While t c =
    let same = sym (length-map c.in-While.rows row_of) in
    let own = rw c.as_slice-in-While.ensures at c.with_rows-own-in-While.ensures in
    rw (while_form _ _ _ c.in-While.is) (extent_as _ _ _ _ _ _ _ (extent_both _ _ _ _ _ _ _ _ _ own c.extent_of_block-inside.ensures c.both-in-While.ensures) refl (omega (arith, same)) (λ t p. p) (λ t p. p))

pub extent_of_form-returns-in-Switch : goal.extent_of_form-returns-in-Switch
extent_of_form-returns-in-Switch t c =
    let same = sym (length-map c.in-Switch.rows row_of) in
    let own = rw c.as_slice-in-Switch.ensures at c.with_rows-own-in-Switch.ensures in
    let arms = rw c.as_slice-in-Switch-2.ensures at c.extent_of_arms-inside.ensures in
    rw (switch_form _ _ _ _ c.in-Switch.is) (extent_as _ _ _ _ _ _ _ (extent_both _ _ _ _ _ _ _ _ _ own arms c.both-in-Switch.ensures) refl (omega (arith, same)) (λ t p. p) (λ t p. p))

pub extent_of_form-returns-in-Scope : goal.extent_of_form-returns-in-Scope
extent_of_form-returns-in-Scope t c =
    rw (scope_form _ _ c.in-Scope.is) (extent_as _ _ _ _ _ _ _ (extent_both _ _ _ _ _ _ _ _ _ c.only.ensures c.extent_of_block-inside-in-Scope.ensures c.both-in-Scope.ensures) refl (omega arith) (λ t p. p.1) (λ t p. (tt, p)))

pub extent_of_form-returns-in-Focus : goal.extent_of_form-returns-in-Focus
extent_of_form-returns-in-Focus t c =
    let same = sym (length-map c.in-Focus.rows row_of) in
    let alike = sym (length-map c.in-Focus.after row_of) in
    let own = rw c.as_slice-in-Focus.ensures at c.with_rows-own-in-Focus.ensures in
    let rest = rw c.as_slice-in-Focus-2.ensures at c.extent_of_rows-rest.ensures in
    let following = extent_both _ _ _ _ _ _ _ _ _ c.extent_of_block-inside-in-Focus.ensures rest c.both-following.ensures in
    rw (focus_form _ _ _ _ c.in-Focus.is) (extent_as _ _ _ _ _ _ _ (extent_both _ _ _ _ _ _ _ _ _ own following c.both-in-Focus.ensures) (omega arith) (omega (arith, same, alike)) (λ t p. p) (λ t p. p))

pub extent_of_form-returns-in-Return : goal.extent_of_form-returns-in-Return
extent_of_form-returns-in-Return t c =
    let same = sym (length-map c.in-Return.rows row_of) in
    let q = rw c.as_slice-in-Return.ensures at c.with_rows-in-Return.ensures in
    rw (return_form _ _ c.in-Return.is) (extent_as _ _ _ _ _ _ _ q refl (omega (arith, same)) (λ t p. p) (λ t p. p))

pub extent_of_form-returns-in-Jump : goal.extent_of_form-returns-in-Jump
extent_of_form-returns-in-Jump t c =
    let same = sym (length-map c.in-Jump.left tok_of) in
    let own = rw c.as_slice-in-Jump.ensures at c.extent_of_toks-own.ensures in
    rw (jump_form _ _ _ c.in-Jump.is) (extent_as _ _ _ _ _ _ _ (extent_both _ _ _ _ _ _ _ _ _ c.only-in-Jump.ensures own c.both-in-Jump.ensures) refl (omega (arith, same)) (λ t p. p.1) (λ t p. (tt, p)))

pub extent_of_block-returns : goal.extent_of_block-returns
extent_of_block-returns t c =
    let same = sym (length-map (out-FlowBlock c.args.block.now).bound tok_of) in
    let inside = rw c.as_slice.ensures at c.extent_of_list-inside.ensures in
    let bound = rw c.as_slice-2.ensures at c.extent_of_toks-bound.ensures in
    rw (block_parts c.args.block.now) (extent_as _ _ _ _ _ _ _ (extent_both _ _ _ _ _ _ _ _ _ inside bound c.both.ensures) (omega arith) (omega (arith, same)) (λ t p. p) (λ t p. p))

pub extent_of_list-loop-s-init : goal.extent_of_list-loop-s-init
extent_of_list-loop-s-init t c = counting_first _ _ _ _ c.only-sum.ensures

pub extent_of_list-loop-s-preserved : goal.extent_of_list-loop-s-preserved
extent_of_list-loop-s-preserved t c =
    let lt : c.loop-s.s-index < length c.args.stmts.now = omega arith in
    stmts_more _ _ c.s-item.result _ _ _ (split_at _ _ _ lt c.s-item.is) c.loop-s.invariant c.extent_of_form-own.ensures c.both-sum.ensures

pub extent_of_list-returns : goal.extent_of_list-returns
extent_of_list-returns t c = stmts_end _ _ _ (omega (arith, c.loop-s-test.false)) c.loop-s.invariant

pub extent_of_arms-loop-arm-init : goal.extent_of_arms-loop-arm-init
extent_of_arms-loop-arm-init t c = counting_first _ _ _ _ c.only-sum.ensures

pub extent_of_arms-loop-arm-preserved : goal.extent_of_arms-loop-arm-preserved
extent_of_arms-loop-arm-preserved t c =
    let lt : c.loop-arm.arm-index < length c.args.arms.now = omega arith in
    let rows = rw c.as_slice.ensures at c.extent_of_rows-rows.ensures in
    let own = extent_both _ _ _ _ _ _ _ _ _ rows c.extent_of_block-inside.ensures c.both-own.ensures in
    arms_more _ _ c.arm-item.result _ _ _ (split_at _ _ _ lt c.arm-item.is) c.loop-arm.invariant own c.both-sum.ensures

pub extent_of_arms-returns : goal.extent_of_arms-returns
extent_of_arms-returns t c = arms_end _ _ _ (omega (arith, c.loop-arm-test.false)) c.loop-arm.invariant
