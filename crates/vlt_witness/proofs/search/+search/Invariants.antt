use Rattle.std.proofs.Common.{◌+◌, ◌*◌}
use Rattle.vlt_core.specs.Flow.{choose, loop, switch, focus, size, size_block, size_stmts, size_arms}
use Rattle.vlt_rows.specs.FlowView.{rows_view, block_view, flow_view, stmts_view, arm_view, arms_view}
use Rattle.vlt_witness.proofs.Runs.{Listing, Arming}
use Rattle.vlt_witness.proofs.search.+search.Given as goal

abbrev pub invariant-search_list-loop-s : goal.invariant-search_list-loop-s
invariant-search_list-loop-s l = Listing l.aim l.stmts l.number l.fn.ways l.fn.jumps l.fn.met l.s-index l.spot l.next l.jumps l.met

abbrev pub invariant-search_arms-loop-position : goal.invariant-search_arms-loop-position
invariant-search_arms-loop-position l = Arming l.aim l.arms l.at l.number l.ways l.fn.jumps l.fn.met l.position l.spot l.next l.jumps l.met

-- ---- measures: the size, and then the order of the calls

abbrev pub decreases-search_form : goal.decreases-search_form
decreases-search_form l = 8 * size (flow_view l.form.now) + 1

abbrev pub decreases-search_way : goal.decreases-search_way
decreases-search_way l = 8 * size_block (block_view l.block.now) + 5

abbrev pub decreases-search_if : goal.decreases-search_if
decreases-search_if l = 8 * size (choose (rows_view l.rows.now) (block_view l.then_block.now) (block_view l.else_block.now))

abbrev pub decreases-search_turn : goal.decreases-search_turn
decreases-search_turn l = 8 * size_block (block_view l.body.now) + 6

abbrev pub decreases-search_while : goal.decreases-search_while
decreases-search_while l = 8 * size (loop (rows_view l.rows.now) (block_view l.body.now))

abbrev pub decreases-search_switch : goal.decreases-search_switch
decreases-search_switch l = 8 * size (switch (rows_view l.rows.now) (arms_view l.arms.now) l.end)

abbrev pub decreases-search_arm : goal.decreases-search_arm
decreases-search_arm l = 8 * size_block (arm_view l.arm.now).1 + 5

abbrev pub decreases-search_arms : goal.decreases-search_arms
decreases-search_arms l = 8 * size_arms (arms_view l.arms.now) + 6

abbrev pub decreases-search_focus : goal.decreases-search_focus
decreases-search_focus l = 8 * size (focus (rows_view l.rows.now) (block_view l.body.now) (rows_view l.after.now))

abbrev pub decreases-search_block : goal.decreases-search_block
decreases-search_block l = 8 * size_block (block_view l.block.now) + 4

abbrev pub decreases-search_list : goal.decreases-search_list
decreases-search_list l = 8 * size_stmts (stmts_view l.stmts.now) + 3
