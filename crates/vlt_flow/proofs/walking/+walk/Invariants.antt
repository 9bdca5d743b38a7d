use Rattle.std.proofs.Common.{◌+◌, ◌*◌}
use Rattle.vlt_core.specs.Flow.{size, size_block, size_stmts, size_arms}
use Rattle.vlt_rows.specs.FlowView.{rows_view, block_view, flow_view, stmts_view, arms_view}
use Rattle.vlt_keyset.specs.Held.{map_of}
use Rattle.vlt_flow.specs.Walks.{choice_of}
use Rattle.vlt_flow_maps.specs.Kept.{slot}
use Rattle.vlt_flow.proofs.Turning.{Turning, gap_in, Arming, Listing}
use Rattle.vlt_flow.proofs.walking.+walk.Given as goal

abbrev pub invariant-walk_list-loop-s : goal.invariant-walk_list-loop-s
invariant-walk_list-loop-s l = Listing l.l l.n l.stmts (map_of l.fn.held) l.fn.kept l.s-index l.flow.at l.kept l.flow.held

abbrev pub invariant-walk_arms-loop-arm : goal.invariant-walk_arms-loop-arm
invariant-walk_arms-loop-arm l = Arming l.l l.n l.arms (map_of l.fn.held) l.fn.kept l.arm-index l.at l.kept l.passes

abbrev pub invariant-walk_turns-loop-before : goal.invariant-walk_turns-loop-before
invariant-walk_turns-loop-before l = Turning (rows_view l.rows) (block_view l.body) l.n l.fn.kept l.kept

abbrev pub decreases-walk_turns-loop-before : goal.decreases-walk_turns-loop-before
decreases-walk_turns-loop-before l = gap_in (slot l.kept.around l.n)

-- ---- measures: the size, and then the order of the calls

abbrev pub decreases-walk_form : goal.decreases-walk_form
decreases-walk_form l = 8 * size (flow_view l.form.now) + 1

abbrev pub decreases-walk_if : goal.decreases-walk_if
decreases-walk_if l = 8 * size (choice_of l.rows.now l.then_block.now l.else_block.now)

abbrev pub decreases-walk_on : goal.decreases-walk_on
decreases-walk_on l = 8 * size (flow_view l.form.now) + 2

abbrev pub decreases-walk_list : goal.decreases-walk_list
decreases-walk_list l = 8 * size_stmts (stmts_view l.stmts.now) + 3

abbrev pub decreases-walk_block : goal.decreases-walk_block
decreases-walk_block l = 8 * size_block (block_view l.block.now) + 4

abbrev pub decreases-walk_way : goal.decreases-walk_way
decreases-walk_way l = 8 * size_block (block_view l.body.now) + 5

abbrev pub decreases-walk_turn : goal.decreases-walk_turn
decreases-walk_turn l = 8 * size_block (block_view l.body.now) + 5

abbrev pub decreases-walk_turns : goal.decreases-walk_turns
decreases-walk_turns l = 8 * size_block (block_view l.body.now) + 6

abbrev pub decreases-walk_arms : goal.decreases-walk_arms
decreases-walk_arms l = 8 * size_arms (arms_view l.arms.now) + 6
