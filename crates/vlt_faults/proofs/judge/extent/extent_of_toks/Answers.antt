use Rattle.std.proofs.Common.{◌<◌, length, arith}
use Rattle.std.proofs.lemmas.List.{get_or_default}
use Rattle.vlt_core.specs.Maps.{away_row}
use Rattle.vlt_core.specs.View.{tok_of}
use Rattle.vlt_faults.proofs.OfFinding.Passing.{map_twice}
use Rattle.vlt_faults.proofs.OfFinding.Sweeps.{split_at}
use Rattle.vlt_faults.proofs.OfJudge.Sums.{counting_first, rows_more, rows_end}
use Rattle.vlt_faults.proofs.judge.extent.extent_of_toks.Goals as goal

pub loop-tok-init : goal.loop-tok-init
loop-tok-init c = counting_first _ _ _ _ c.only-sum.ensures

pub loop-tok-preserved : goal.loop-tok-preserved
loop-tok-preserved c =
    let lt : c.loop-tok.tok-index < length c.args.toks.now = omega arith in
    rows_more (λ t. away_row (tok_of t)) _ _ _ _ _ _ (split_at _ _ _ lt (get_or_default _ _ _ _ lt)) c.loop-tok.invariant c.extent_of_tok-own.ensures c.both-sum.ensures

pub returns : goal.returns
returns c = rw (← map_twice away_row tok_of c.args.toks.now) (rows_end (λ t. away_row (tok_of t)) _ _ _ (omega (arith, c.loop-tok-test.false)) c.loop-tok.invariant)
