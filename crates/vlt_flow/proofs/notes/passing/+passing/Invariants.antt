use Rattle.std.proofs.Common.{◌≡◌, drop}
use Rattle.vlt_core.specs.Flow.{passes_stmts, passes_arms}
use Rattle.vlt_rows.specs.FlowView.{stmts_view, arms_view}
use Rattle.vlt_flow.proofs.notes.passing.+passing.Given as goal

abbrev pub invariant-passes_list-loop-s : goal.invariant-passes_list-loop-s
invariant-passes_list-loop-s l = passes_stmts (stmts_view l.stmts) ≡ passes_stmts (stmts_view (drop l.s-index l.stmts))

abbrev pub invariant-passes_arms-loop-arm : goal.invariant-passes_arms-loop-arm
invariant-passes_arms-loop-arm l = passes_arms (arms_view l.arms) ≡ passes_arms (arms_view (drop l.arm-index l.arms))
