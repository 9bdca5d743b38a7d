use Rattle.vlt_core.specs.Maps.{away_row}
use Rattle.vlt_core.specs.View.{tok_of}
use Rattle.vlt_faults.specs.Finding.Ones.{many_of}
use Rattle.vlt_faults.proofs.OfJudge.Lists.{Looking}
use Rattle.vlt_faults.proofs.judge.rows.judge_gone.Given as goal

abbrev pub invariant-loop-t : goal.invariant-loop-t
invariant-loop-t l = Looking (tok_of l.tok) l.at l.number (λ t. away_row (tok_of t)) l.toks (many_of l.fn.m) l.t-index l.n (many_of l.cur) l.first
