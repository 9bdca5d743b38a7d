use Rattle.std.proofs.Common.{◌≡◌, ◌+◌, drop}
use Rattle.vlt_core.specs.Flow.{size_stmts, size_arms}
use Rattle.vlt_rows.specs.FlowView.{stmts_view, arms_view}
use Rattle.vlt_flow.proofs.count.+count.Given as goal

abbrev pub invariant-count_list-loop-s : goal.invariant-count_list-loop-s
invariant-count_list-loop-s l = l.sum + size_stmts (stmts_view (drop l.s-index l.stmts)) ≡ size_stmts (stmts_view l.stmts)

abbrev pub invariant-count_arms-loop-arm : goal.invariant-count_arms-loop-arm
invariant-count_arms-loop-arm l = l.sum + size_arms (arms_view (drop l.arm-index l.arms)) ≡ size_arms (arms_view l.arms)
