use Rattle.std.proofs.Common.{length}
use Rattle.vlt_rows.specs.FlowView.{block_view}
use Rattle.vlt_points.specs.Keeps.{gap}
use Rattle.vlt_points.proofs.Sweeps.{IsSweeping}
use Rattle.vlt_points.proofs.sweep.find.Given as goal

abbrev pub invariant-loop-kept : goal.invariant-loop-kept
invariant-loop-kept l = IsSweeping (block_view l.body) l.start l.count l.kept

abbrev pub decreases-loop-kept : goal.decreases-loop-kept
decreases-loop-kept l = gap (length l.start) l.kept
