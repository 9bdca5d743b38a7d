use Rattle.std.proofs.Common.{◌<◌, length, arith}
use Rattle.vlt_core.specs.HeldView.{row_of}
use Rattle.vlt_flow_maps.proofs.Passing.{going_more, going_ends, split_at}
use Rattle.vlt_flow_maps.proofs.pass.pass_rows.Goals as goal

pub loop-row-preserved : goal.loop-row-preserved
loop-row-preserved c =
    let lt : c.loop-row.row-index < length c.args.rows.now = omega arith in
    going_more row_of _ _ _ _ _ c.row-item.result (split_at _ _ _ lt c.row-item.is) c.loop-row.invariant c.in_ok-pass_row.ensures.ok

pub returns-clause-ok : goal.returns-clause-ok
returns-clause-ok c = going_ends row_of _ _ _ _ (omega (arith, c.loop-row-test.false)) c.loop-row.invariant
