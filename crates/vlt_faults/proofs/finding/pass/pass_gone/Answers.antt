use Rattle.std.proofs.Common.{◌<◌, length, arith}
use Rattle.std.proofs.lemmas.List.{get_or_default}
use Rattle.vlt_core.specs.Maps.{away_row}
use Rattle.vlt_core.specs.View.{tok_of}
use Rattle.vlt_faults.proofs.OfFinding.Passing.{going_more, going_ends, map_twice}
use Rattle.vlt_faults.proofs.OfFinding.Sweeps.{split_at}
use Rattle.vlt_faults.proofs.finding.pass.pass_gone.Goals as goal

pub loop-t-init : goal.loop-t-init
loop-t-init c = record { each = λ o. (λ x. x, λ x. x) }

pub loop-t-preserved : goal.loop-t-preserved
loop-t-preserved c =
    let lt : c.loop-t.t-index < length c.args.toks.now = omega arith in
    going_more _ (λ t. away_row (tok_of t)) _ _ _ _ _ _ (split_at _ _ _ lt (get_or_default _ _ _ _ lt)) c.loop-t.invariant c.pass_row-cur.ensures

pub returns : goal.returns
returns c = rw (← map_twice away_row tok_of c.args.toks.now) (going_ends _ (λ t. away_row (tok_of t)) _ _ _ _ (omega (arith, c.loop-t-test.false)) c.loop-t.invariant)
