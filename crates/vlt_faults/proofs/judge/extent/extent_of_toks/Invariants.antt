use Rattle.vlt_core.specs.Maps.{away_row}
use Rattle.vlt_core.specs.View.{tok_of}
use Rattle.vlt_faults.proofs.OfJudge.Sums.{CountingRows}
use Rattle.vlt_faults.proofs.judge.extent.extent_of_toks.Given as goal

abbrev pub invariant-loop-tok : goal.invariant-loop-tok
invariant-loop-tok l = CountingRows (λ t. away_row (tok_of t)) l.toks l.tok-index l.sum
