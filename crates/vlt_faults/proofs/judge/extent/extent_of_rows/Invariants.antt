use Rattle.vlt_core.specs.HeldView.{row_of}
use Rattle.vlt_faults.proofs.OfJudge.Sums.{CountingRows}
use Rattle.vlt_faults.proofs.judge.extent.extent_of_rows.Given as goal

abbrev pub invariant-loop-row : goal.invariant-loop-row
invariant-loop-row l = CountingRows row_of l.rows l.row-index l.sum
