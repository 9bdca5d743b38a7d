use Rattle.std.proofs.Common.{◌<◌, length, arith}
use Rattle.vlt_core.specs.HeldView.{row_of}
use Rattle.vlt_faults.proofs.OfFinding.Passing.{going_ends}
use Rattle.vlt_faults.proofs.OfFinding.Sweeps.{split_at}
use Rattle.vlt_faults.proofs.OfJudge.Lists.{looking_first, looking_more, looking_ends}
use Rattle.vlt_faults.proofs.judge.rows.judge_rows.Goals as goal

pub loop-row-init : goal.loop-row-init
loop-row-init c = looking_first _ c.args.at c.args.number row_of c.args.rows.now _

pub loop-row-preserved : goal.loop-row-preserved
loop-row-preserved c =
    let lt : c.loop-row.row-index < length c.args.rows.now = omega arith in
    looking_more _ _ _ row_of _ _ _ _ _ _ _ _ _ c.row-item.result (split_at _ _ _ lt c.row-item.is) c.loop-row.invariant c.judge_row.ensures c.earlier-first.ensures c.pass_row-cur.ensures

pub returns-clause-first : goal.returns-clause-first
returns-clause-first c = looking_ends _ _ _ row_of _ _ _ _ _ _ (omega (arith, c.loop-row-test.false)) c.loop-row.invariant

pub returns-clause-ones : goal.returns-clause-ones
returns-clause-ones c = going_ends _ row_of _ _ _ _ (omega (arith, c.loop-row-test.false)) c.loop-row.invariant.passed
