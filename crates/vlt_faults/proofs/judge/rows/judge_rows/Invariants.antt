use Rattle.vlt_core.specs.View.{tok_of}
use Rattle.vlt_core.specs.HeldView.{row_of}
use Rattle.vlt_faults.specs.Finding.Ones.{many_of}
use Rattle.vlt_faults.proofs.OfJudge.Lists.{Looking}
use Rattle.vlt_faults.proofs.judge.rows.judge_rows.Given as goal

abbrev pub invariant-loop-row : goal.invariant-loop-row
invariant-loop-row l = Looking (tok_of l.tok) l.at l.number row_of l.rows (many_of l.fn.m) l.row-index l.n (many_of l.cur) l.first
