use Rattle.std.proofs.Common.{◌+◌, ◌*◌}
use Rattle.vlt_core.specs.Flow.{choose, loop, switch, focus, size, size_block, size_stmts, size_arms}
use Rattle.vlt_rows.specs.FlowView.{rows_view, block_view, flow_view, stmts_view, arms_view}
use Rattle.vlt_points.proofs.Parts.{Listing, Arming}
use Rattle.vlt_points.proofs.points.+points.Given as goal

abbrev pub invariant-add_list-loop-s : goal.invariant-add_list-loop-s
invariant-add_list-loop-s l = Listing l.walk.source l.walk.kept.now l.n l.stmts l.fn.m l.fn.page l.s-index l.at l.passes l.page l.m

abbrev pub invariant-add_arms-loop-arm : goal.invariant-add_arms-loop-arm
invariant-add_arms-loop-arm l = Arming l.walk.source l.walk.kept.now l.n l.arms l.m l.fn.page l.arm-index l.at l.passes l.page

-- ---- measures: the size, and then the order of the calls

abbrev pub decreases-add_form : goal.decreases-add_form
decreases-add_form l = 8 * size (flow_view l.form.now) + 1

abbrev pub decreases-add_if : goal.decreases-add_if
decreases-add_if l = 8 * size (choose (rows_view l.rows.now) (block_view l.then_block.now) (block_view l.else_block.now))

abbrev pub decreases-add_while : goal.decreases-add_while
decreases-add_while l = 8 * size (loop (rows_view l.rows.now) (block_view l.body.now))

abbrev pub decreases-add_switch : goal.decreases-add_switch
decreases-add_switch l = 8 * size (switch (rows_view l.rows.now) (arms_view l.arms.now) l.end)

abbrev pub decreases-add_focus : goal.decreases-add_focus
decreases-add_focus l = 8 * size (focus (rows_view l.rows.now) (block_view l.body.now) (rows_view l.after.now))

abbrev pub decreases-add_list : goal.decreases-add_list
decreases-add_list l = 8 * size_stmts (stmts_view l.stmts.now) + 3

abbrev pub decreases-add_block : goal.decreases-add_block
decreases-add_block l = 8 * size_block (block_view l.block.now) + 4

abbrev pub decreases-add_arms : goal.decreases-add_arms
decreases-add_arms l = 8 * size_arms (arms_view l.arms.now) + 6
