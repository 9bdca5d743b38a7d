use Rattle.std.proofs.Common.{arith, [], ◌∷◌, ◌<◌, length}
use Rattle.std.proofs.lemmas.List.{get_or_default}
use Rattle.vlt_core.specs.View.{tok_of}
use Rattle.vlt_core.specs.Maps.{away_row}
use Rattle.vlt_rows.proofs.Looping.{gone_flat}
use Rattle.vlt_rows.proofs.Looping.{going_more, going_stops, going_ends}
use Rattle.vlt_rows.proofs.pieces.give_gone.Goals as goal

pub returns-in_err-give_row : goal.returns-in_err-give_row
returns-in_err-give_row g c =
    let lt : c.loop-tok.tok-index < length c.args.toks.now = omega arith in
    rw (← gone_flat tok_of c.args.toks.now)
    (going_stops _ _ (λ t. away_row (tok_of t) ∷ []) (c.args.toks.now) _ _ _ _ _ _ _ lt (get_or_default _ _ _ _ lt) c.loop-tok.invariant c.from_residual.ensures.1 c.in_err-give_row.ensures)

pub loop-tok-preserved : goal.loop-tok-preserved
loop-tok-preserved g c =
    let lt : c.loop-tok.tok-index < length c.args.toks.now = omega arith in
    going_more _ _ (λ t. away_row (tok_of t) ∷ []) (c.args.toks.now) _ _ _ _ _ lt (get_or_default _ _ _ _ lt) c.loop-tok.invariant c.in_ok-give_row.ensures

pub returns : goal.returns
returns g c =
    rw (← gone_flat tok_of c.args.toks.now)
    (going_ends _ _ (λ t. away_row (tok_of t) ∷ []) (c.args.toks.now) _ _ _ (omega (arith, c.loop-tok-test.false)) c.loop-tok.invariant)
