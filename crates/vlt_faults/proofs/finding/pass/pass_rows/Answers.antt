use Rattle.std.proofs.Common.{◌<◌, length, arith}
use Rattle.vlt_core.specs.HeldView.{row_of}
use Rattle.vlt_faults.proofs.OfFinding.Passing.{going_more, going_ends}
use Rattle.vlt_faults.proofs.OfFinding.Sweeps.{split_at}
use Rattle.vlt_faults.proofs.finding.pass.pass_rows.Goals as goal

pub loop-row-init : goal.loop-row-init
loop-row-init c = record { each = λ o. (λ x. x, λ x. x) }

pub loop-row-preserved : goal.loop-row-preserved
loop-row-preserved c =
    let lt : c.loop-row.row-index < length c.args.rows.now = omega arith in
    going_more _ row_of _ _ _ _ _ c.row-item.result (split_at _ _ _ lt c.row-item.is) c.loop-row.invariant c.pass_row-cur.ensures

pub returns : goal.returns
returns c = going_ends _ row_of _ _ _ _ (omega (arith, c.loop-row-test.false)) c.loop-row.invariant
