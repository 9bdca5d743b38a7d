use Rattle.std.proofs.Common.{drop}
use Rattle.vlt_core.specs.Flow.{size_stmts, size_arms}
use Rattle.vlt_core.specs.Faults.{spots_stmts, spots_arms}
use Rattle.vlt_rows.specs.FlowView.{stmts_view, arms_view}
use Rattle.vlt_faults.specs.Judge.Extents.{AvoidsStmts, AvoidsArms}
use Rattle.vlt_faults.proofs.OfJudge.Sums.{Counting}
use Rattle.vlt_faults.proofs.judge.extent.+extent.Given as goal

abbrev pub invariant-extent_of_list-loop-s : goal.invariant-extent_of_list-loop-s
invariant-extent_of_list-loop-s l =
    Counting (size_stmts (stmts_view l.stmts)) (spots_stmts (stmts_view l.stmts)) (λ t. AvoidsStmts t (stmts_view l.stmts))
    (size_stmts (stmts_view (drop l.s-index l.stmts))) (spots_stmts (stmts_view (drop l.s-index l.stmts))) (λ t. AvoidsStmts t (stmts_view (drop l.s-index l.stmts))) l.sum

abbrev pub invariant-extent_of_arms-loop-arm : goal.invariant-extent_of_arms-loop-arm
invariant-extent_of_arms-loop-arm l =
    Counting (size_arms (arms_view l.arms)) (spots_arms (arms_view l.arms)) (λ t. AvoidsArms t (arms_view l.arms))
    (size_arms (arms_view (drop l.arm-index l.arms))) (spots_arms (arms_view (drop l.arm-index l.arms))) (λ t. AvoidsArms t (arms_view (drop l.arm-index l.arms))) l.sum
