use Rattle.vlt_core.specs.View.{tok_of}
use Rattle.vlt_core.specs.HeldView.{row_of}
use Rattle.vlt_faults.specs.Finding.Ones.{many_of}
use Rattle.vlt_faults.proofs.OfFinding.Passing.{Going}
use Rattle.vlt_faults.proofs.finding.pass.pass_rows.Given as goal

abbrev pub invariant-loop-row : goal.invariant-loop-row
invariant-loop-row l = Going (tok_of l.tok) row_of l.rows (many_of l.fn.m) l.row-index (many_of l.cur)
