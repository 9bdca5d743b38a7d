use Rattle.std.proofs.Common.{◌<◌, length, arith}
use Rattle.vlt_flow.proofs.OfNotes.Noting.{split_at, stmts_pass, stmts_stop, stmts_all, arms_pass, arms_stop, arms_none}
use Rattle.vlt_flow.proofs.notes.passing.+passing.Goals as goal

pub passes_list-returns-then-not-passes_form : goal.passes_list-returns-then-not-passes_form
passes_list-returns-then-not-passes_form t c =
    let lt : c.loop-s.s-index < length c.args.stmts.now = omega arith in
    stmts_stop _ _ c.s-item.result (split_at _ _ _ lt c.s-item.is) c.loop-s.invariant c.if-not-passes_form.ensures

pub passes_list-loop-s-preserved : goal.passes_list-loop-s-preserved
passes_list-loop-s-preserved t c =
    let lt : c.loop-s.s-index < length c.args.stmts.now = omega arith in
    stmts_pass _ _ c.s-item.result (split_at _ _ _ lt c.s-item.is) c.loop-s.invariant c.if-not-passes_form.ensures

pub passes_list-returns : goal.passes_list-returns
passes_list-returns t c = stmts_all _ _ (omega (arith, c.loop-s-test.false)) c.loop-s.invariant

pub passes_arms-returns-then-passes_block : goal.passes_arms-returns-then-passes_block
passes_arms-returns-then-passes_block t c =
    let lt : c.loop-arm.arm-index < length c.args.arms.now = omega arith in
    arms_pass _ _ c.arm-item.result (split_at _ _ _ lt c.arm-item.is) c.loop-arm.invariant c.if-passes_block.ensures

pub passes_arms-loop-arm-preserved : goal.passes_arms-loop-arm-preserved
passes_arms-loop-arm-preserved t c =
    let lt : c.loop-arm.arm-index < length c.args.arms.now = omega arith in
    arms_stop _ _ c.arm-item.result (split_at _ _ _ lt c.arm-item.is) c.loop-arm.invariant c.if-passes_block.ensures

pub passes_arms-returns : goal.passes_arms-returns
passes_arms-returns t c = arms_none _ _ (omega (arith, c.loop-arm-test.false)) c.loop-arm.invariant
