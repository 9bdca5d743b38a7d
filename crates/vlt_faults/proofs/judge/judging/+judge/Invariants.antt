use Rattle.std.proofs.Common.{◌+◌, ◌*◌}
use Rattle.vlt_core.specs.Flow.{choose, loop, switch, focus, size, size_block, size_stmts, size_arms}
use Rattle.vlt_core.specs.View.{tok_of}
use Rattle.vlt_rows.specs.FlowView.{rows_view, block_view, flow_view, stmts_view, arms_view}
use Rattle.vlt_faults.proofs.OfJudge.Turns.{Listing, Arming}
use Rattle.vlt_faults.proofs.judge.judging.+judge.Given as goal

abbrev pub invariant-judge_list-loop-s : goal.invariant-judge_list-loop-s
invariant-judge_list-loop-s l = Listing l.kept (tok_of l.tok) l.stmts l.fn.from l.s-index l.next l.first

abbrev pub invariant-judge_arms-loop-arm : goal.invariant-judge_arms-loop-arm
invariant-judge_arms-loop-arm l = Arming l.kept (tok_of l.tok) l.at l.arms l.from l.arm-index l.next l.first

-- ---- measures: the size, and then the order of the calls

abbrev pub decreases-judge_form : goal.decreases-judge_form
decreases-judge_form l = 8 * size (flow_view l.form.now) + 1

abbrev pub decreases-judge_if : goal.decreases-judge_if
decreases-judge_if l = 8 * size (choose (rows_view l.rows.now) (block_view l.then_block.now) (block_view l.else_block.now))

abbrev pub decreases-judge_while : goal.decreases-judge_while
decreases-judge_while l = 8 * size (loop (rows_view l.rows.now) (block_view l.body.now))

abbrev pub decreases-judge_switch : goal.decreases-judge_switch
decreases-judge_switch l = 8 * size (switch (rows_view l.rows.now) (arms_view l.arms.now) l.end)

abbrev pub decreases-judge_focus : goal.decreases-judge_focus
decreases-judge_focus l = 8 * size (focus (rows_view l.rows.now) (block_view l.body.now) (rows_view l.after.now))

abbrev pub decreases-judge_list : goal.decreases-judge_list
decreases-judge_list l = 8 * size_stmts (stmts_view l.stmts.now) + 3

abbrev pub decreases-judge_block : goal.decreases-judge_block
decreases-judge_block l = 8 * size_block (block_view l.block.now) + 4

abbrev pub decreases-judge_arms : goal.decreases-judge_arms
decreases-judge_arms l = 8 * size_arms (arms_view l.arms.now) + 6
