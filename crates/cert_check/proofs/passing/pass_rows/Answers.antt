use Rattle.std.proofs.Common.{◌<◌, length, arith}
use Rattle.vlt_core.specs.HeldView.{row_of}
use Rattle.cert_check.proofs.Sequences.{stopped}
use Rattle.cert_check.proofs.Rowing.{rowing_first, rowing_more, rowing_stops, rowing_ends, split_at}
use Rattle.cert_check.proofs.passing.pass_rows.Goals as goal

pub loop-row-init : goal.loop-row-init
loop-row-init c = rowing_first _ _ _ _

pub loop-row-preserved : goal.loop-row-preserved
loop-row-preserved c =
    let lt : c.loop-row.row-index < length c.args.rows.now = omega arith in
    rowing_more row_of _ _ _ _ _ _ c.row-item.result (split_at _ _ _ lt c.row-item.is) c.loop-row.invariant c.in_ok-pass_row.ensures.outcome.0 c.in_ok-pass_row.ensures.outcome.1

pub returns-in_err-pass_row : goal.returns-in_err-pass_row
returns-in_err-pass_row c =
    let lt : c.loop-row.row-index < length c.args.rows.now = omega arith in
    stopped _ _ _ _ _ c.from_residual.ensures.1 c.in_err-pass_row.was c.pass_row.ensures (rowing_stops row_of _ _ _ _ _ c.row-item.result (split_at _ _ _ lt c.row-item.is) c.loop-row.invariant)

pub returns : goal.returns
returns c = record { outcome = rowing_ends row_of _ _ _ _ _ (omega (arith, c.loop-row-test.false)) c.loop-row.invariant }
