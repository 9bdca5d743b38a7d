use Rattle.std.proofs.Common.{◌+◌, ◌*◌}
use Rattle.vlt_core.specs.Flow.{size, size_block, size_stmts, size_arms}
use Rattle.vlt_rows.specs.FlowView.{arm_view, block_view, flow_view, stmts_view, arms_view}
use Rattle.vlt_keyset.specs.Held.{map_of}
use Rattle.vlt_flow.specs.Walks.{choice_of, maybe_map}
use Rattle.cert_check.specs.Notes.{annotation_of}
use Rattle.cert_check.proofs.Listing.{Listing, Arming}
use Rattle.cert_check.proofs.walking.+testing.Given as goal

abbrev pub invariant-test_list-loop-s : goal.invariant-test_list-loop-s
invariant-test_list-loop-s l = Listing (annotation_of l.given) l.l l.n l.stmts (map_of l.fn.held) l.s-index l.flow.at (maybe_map l.flow.held)

abbrev pub invariant-test_arms-loop-arm : goal.invariant-test_arms-loop-arm
invariant-test_arms-loop-arm l = Arming (annotation_of l.given) l.l l.n l.arms (map_of l.held) l.arm-index l.way.at l.way.passes

-- ---- measures: the size, and then the order of the calls

abbrev pub decreases-test_form : goal.decreases-test_form
decreases-test_form l = 8 * size (flow_view l.form.now) + 1

abbrev pub decreases-test_if : goal.decreases-test_if
decreases-test_if l = 8 * size (choice_of l.rows.now l.then_block.now l.else_block.now)

abbrev pub decreases-test_on : goal.decreases-test_on
decreases-test_on l = 8 * size (flow_view l.form.now) + 2

abbrev pub decreases-test_list : goal.decreases-test_list
decreases-test_list l = 8 * size_stmts (stmts_view l.stmts.now) + 3

abbrev pub decreases-test_block : goal.decreases-test_block
decreases-test_block l = 8 * size_block (block_view l.block.now) + 4

abbrev pub decreases-test_way : goal.decreases-test_way
decreases-test_way l = 8 * size_block (block_view l.body.now) + 5

abbrev pub decreases-test_turn : goal.decreases-test_turn
decreases-test_turn l = 8 * size_block (block_view l.body.now) + 6

abbrev pub decreases-test_loop : goal.decreases-test_loop
decreases-test_loop l = 8 * size_block (block_view l.body.now) + 7

abbrev pub decreases-test_arm : goal.decreases-test_arm
decreases-test_arm l = 8 * size_block (arm_view l.arm.now).1 + 6

abbrev pub decreases-test_arms : goal.decreases-test_arms
decreases-test_arms l = 8 * size_arms (arms_view l.arms.now) + 7
