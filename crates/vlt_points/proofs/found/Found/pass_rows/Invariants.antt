use Rattle.std.proofs.Common.{◌≡◌, length}
use Rattle.vlt_core.specs.Core.{Tok}
use Rattle.vlt_core.specs.HeldView.{row_of}
use Rattle.vlt_faults.proofs.OfFinding.Passing.{Going}
use Rattle.vlt_points.specs.Founds.{found}
use Rattle.vlt_points.proofs.found.Found.pass_rows.Given as goal

abbrev pub invariant-loop-row : goal.invariant-loop-row
invariant-loop-row l = record {
  each : (t : Tok) → Going t row_of l.rows (found l.fn.self t) l.row-index (found l.self t);
  long : length l.self ≡ length l.fn.self;
}
