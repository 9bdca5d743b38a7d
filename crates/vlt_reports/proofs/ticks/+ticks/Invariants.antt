use Rattle.std.proofs.Common.{◌≡◌, drop}
use Rattle.vlt_core.specs.View.{stmts_of, arms_of}
use Rattle.vlt_reports.specs.Reports.{tick_in_stmts, tick_in_arms}
use Rattle.vlt_reports.proofs.ticks.+ticks.Given as goal

abbrev pub invariant-tick_in_list-loop-s : goal.invariant-tick_in_list-loop-s
invariant-tick_in_list-loop-s l = tick_in_stmts l.wanted.at l.wanted.position (stmts_of l.stmts) ≡ tick_in_stmts l.wanted.at l.wanted.position (stmts_of (drop l.s-index l.stmts))

abbrev pub invariant-tick_in_arms-loop-arm : goal.invariant-tick_in_arms-loop-arm
invariant-tick_in_arms-loop-arm l = tick_in_arms l.wanted.at l.wanted.position (arms_of l.arms) ≡ tick_in_arms l.wanted.at l.wanted.position (arms_of (drop l.arm-index l.arms))
