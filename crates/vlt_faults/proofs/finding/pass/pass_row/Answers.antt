use Rattle.std.proofs.Common.{sym, ◌∙◌}
use Rattle.vlt_core.specs.View.{tok_of}
use Rattle.vlt_core.specs.HeldView.{row_of}
use Rattle.vlt_faults.specs.Finding.Ones.{many_of}
use Rattle.vlt_faults.proofs.OfFinding.Passing.{moved_own, moved_other}
use Rattle.vlt_faults.proofs.finding.pass.pass_row.Goals as goal

pub returns-then-is_same : goal.returns-then-is_same
returns-then-is_same c = moved_own (tok_of c.args.tok) (row_of c.args.row) (many_of c.args.m) (many_of c.moved.result) (sym c.is_same.ensures ∙ c.if-is_same.true) c.moved.ensures

pub returns-else-is_same : goal.returns-else-is_same
returns-else-is_same c = moved_other (tok_of c.args.tok) (row_of c.args.row) (many_of c.args.m) (sym c.is_same.ensures ∙ c.if-is_same.false)
