use Rattle.vlt_core.specs.View.{tok_of}
use Rattle.vlt_core.specs.Maps.{away_row}
use Rattle.vlt_faults.specs.Finding.Ones.{many_of}
use Rattle.vlt_faults.proofs.OfFinding.Passing.{Going}
use Rattle.vlt_faults.proofs.finding.pass.pass_gone.Given as goal

abbrev pub invariant-loop-t : goal.invariant-loop-t
invariant-loop-t l = Going (tok_of l.tok) (λ t. away_row (tok_of t)) l.toks (many_of l.fn.m) l.t-index (many_of l.cur)
