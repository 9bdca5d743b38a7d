use Rattle.std.proofs.Common.{◌<◌, length, arith}
use Rattle.vlt_core.specs.HeldView.{row_of}
use Rattle.vlt_faults.proofs.OfFinding.Sweeps.{split_at}
use Rattle.vlt_faults.proofs.OfJudge.Sums.{counting_first, rows_more, rows_end}
use Rattle.vlt_faults.proofs.judge.extent.extent_of_rows.Goals as goal

pub loop-row-init : goal.loop-row-init
loop-row-init c = counting_first _ _ _ _ c.only-sum.ensures

pub loop-row-preserved : goal.loop-row-preserved
loop-row-preserved c =
    let lt : c.loop-row.row-index < length c.args.rows.now = omega arith in
    rows_more row_of _ _ c.row-item.result _ _ _ (split_at _ _ _ lt c.row-item.is) c.loop-row.invariant c.extent_of_tok-own.ensures c.both-sum.ensures

pub returns : goal.returns
returns c = rows_end row_of _ _ _ (omega (arith, c.loop-row-test.false)) c.loop-row.invariant
