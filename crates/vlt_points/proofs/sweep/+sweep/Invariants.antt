use Rattle.std.proofs.Common.{◌+◌, ◌*◌}
use Rattle.vlt_core.specs.Flow.{size, size_block, size_stmts, size_arms}
use Rattle.vlt_rows.specs.FlowView.{block_view, flow_view, stmts_view, arms_view}
use Rattle.vlt_points.proofs.Sweeps.{Arming, Listing}
use Rattle.vlt_points.proofs.sweep.+sweep.Given as goal

abbrev pub invariant-sweep_list-loop-s : goal.invariant-sweep_list-loop-s
invariant-sweep_list-loop-s l = Listing l.l l.n l.stmts l.fn.m l.fn.kept l.s-index l.at l.kept l.m

abbrev pub invariant-sweep_arms-loop-arm : goal.invariant-sweep_arms-loop-arm
invariant-sweep_arms-loop-arm l = Arming l.l l.c l.arms l.m l.fn.kept l.arm-index l.at l.kept

-- ---- measures: the size, and then the order of the calls

abbrev pub decreases-sweep_form : goal.decreases-sweep_form
decreases-sweep_form l = 8 * size (flow_view l.form.now) + 1

abbrev pub decreases-sweep_list : goal.decreases-sweep_list
decreases-sweep_list l = 8 * size_stmts (stmts_view l.stmts.now) + 3

abbrev pub decreases-sweep_block : goal.decreases-sweep_block
decreases-sweep_block l = 8 * size_block (block_view l.block.now) + 4

abbrev pub decreases-sweep_way : goal.decreases-sweep_way
decreases-sweep_way l = 8 * size_block (block_view l.body.now) + 5

abbrev pub decreases-sweep_turn : goal.decreases-sweep_turn
decreases-sweep_turn l = 8 * size_block (block_view l.body.now) + 5

abbrev pub decreases-sweep_arms : goal.decreases-sweep_arms
decreases-sweep_arms l = 8 * size_arms (arms_view l.arms.now) + 6
