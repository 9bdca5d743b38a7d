use Rattle.std.proofs.Common.{◌<◌, length, arith}
use Rattle.std.proofs.lemmas.List.{get_or_default}
use Rattle.vlt_core.specs.Maps.{away_row}
use Rattle.vlt_core.specs.View.{tok_of}
use Rattle.cert_check.proofs.Sequences.{stopped}
use Rattle.cert_check.proofs.Rowing.{rowing_first, rowing_more, rowing_stops, rowing_ends, split_at, map_twice}
use Rattle.cert_check.proofs.passing.pass_gone.Goals as goal

pub loop-tok-init : goal.loop-tok-init
loop-tok-init c = rowing_first _ _ _ _

pub loop-tok-preserved : goal.loop-tok-preserved
loop-tok-preserved c =
    let lt : c.loop-tok.tok-index < length c.args.toks.now = omega arith in
    rowing_more (λ t. away_row (tok_of t)) _ _ _ _ _ _ _ (split_at _ _ _ lt (get_or_default _ _ _ _ lt)) c.loop-tok.invariant c.in_ok-pass_row.ensures.outcome.0 c.in_ok-pass_row.ensures.outcome.1

pub returns-in_err-pass_row : goal.returns-in_err-pass_row
returns-in_err-pass_row c =
    let lt : c.loop-tok.tok-index < length c.args.toks.now = omega arith in
    rw (← map_twice away_row tok_of c.args.toks.now)
    (stopped _ _ _ _ _ c.from_residual.ensures.1 c.in_err-pass_row.was c.pass_row.ensures (rowing_stops (λ t. away_row (tok_of t)) _ _ _ _ _ _ (split_at _ _ _ lt (get_or_default _ _ _ _ lt)) c.loop-tok.invariant))

pub returns : goal.returns
returns c = rw (← map_twice away_row tok_of c.args.toks.now) (record { outcome = rowing_ends (λ t. away_row (tok_of t)) _ _ _ _ _ (omega (arith, c.loop-tok-test.false)) c.loop-tok.invariant })
