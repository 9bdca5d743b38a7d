use Rattle.std.proofs.Common.{◌<◌, length, arith}
use Rattle.std.proofs.lemmas.List.{get_or_default}
use Rattle.vlt_core.specs.Maps.{away_row}
use Rattle.vlt_core.specs.View.{tok_of}
use Rattle.vlt_flow_maps.proofs.Passing.{going_more, going_ends, going_stops, split_at, handed, map_twice}
use Rattle.vlt_flow_maps.proofs.pass.pass_gone.Goals as goal

pub returns-in_err-pass_row-clause-refused : goal.returns-in_err-pass_row-clause-refused
returns-in_err-pass_row-clause-refused c =
    let lt : c.loop-tok.tok-index < length c.args.toks.now = omega arith in
    rw (← map_twice away_row tok_of c.args.toks.now)
    (handed _ _ _ c.from_residual.ensures.1 c.in_err-pass_row.was (going_stops (λ t. away_row (tok_of t)) _ _ _ _ _ (split_at _ _ _ lt (get_or_default _ _ _ _ lt)) c.loop-tok.invariant) c.pass_row.ensures.refused)

pub loop-tok-preserved : goal.loop-tok-preserved
loop-tok-preserved c =
    let lt : c.loop-tok.tok-index < length c.args.toks.now = omega arith in
    going_more (λ t. away_row (tok_of t)) _ _ _ _ _ _ (split_at _ _ _ lt (get_or_default _ _ _ _ lt)) c.loop-tok.invariant c.in_ok-pass_row.ensures.ok

pub returns-clause-ok : goal.returns-clause-ok
returns-clause-ok c = rw (← map_twice away_row tok_of c.args.toks.now) (going_ends (λ t. away_row (tok_of t)) _ _ _ _ (omega (arith, c.loop-tok-test.false)) c.loop-tok.invariant)
