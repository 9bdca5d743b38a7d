use Rattle.vlt_core.specs.View.{tok_of}
use Rattle.vlt_core.specs.HeldView.{row_of}
use Rattle.vlt_faults.specs.Finding.Ones.{many_of}
use Rattle.vlt_faults.proofs.OfFinding.Passing.{Going}
use Rattle.vlt_witness.proofs.Rowing.{Looking}
use Rattle.vlt_witness.proofs.rows.look.Given as goal

abbrev pub invariant-loop-row : goal.invariant-loop-row
invariant-loop-row l = record {
  ones : Going (tok_of l.aim.tok) row_of l.rows (many_of l.fn.m) l.row-index (many_of l.ones);
  met : Looking l.aim l.at l.rows (many_of l.fn.m) l.row-index (many_of l.ones) l.met;
}
