use Rattle.std.proofs.Common.{◌<◌, length, arith, refl, ◌∙◌}
use Rattle.vlt_core.specs.HeldView.{row_of}
use Rattle.vlt_faults.proofs.OfFinding.Passing.{going_more, going_ends}
use Rattle.vlt_faults.proofs.OfFinding.Sweeps.{split_at}
use Rattle.vlt_points.proofs.found.Found.pass_rows.Goals as goal

pub loop-row-init : goal.loop-row-init
loop-row-init c = record { each = λ t. record { each = λ o. (λ x. x, λ x. x) }; long = refl }

pub loop-row-preserved : goal.loop-row-preserved
loop-row-preserved c =
    let lt : c.loop-row.row-index < length c.args.rows.now = omega arith in
    record {
      each = λ t. going_more t row_of _ _ _ _ _ c.row-item.result (split_at _ _ _ lt c.row-item.is) (c.loop-row.invariant.each t) (c.pass_row.ensures.moved t);
      long = c.pass_row.ensures.long ∙ c.loop-row.invariant.long;
    }

pub returns : goal.returns
returns c = record { image = λ t. going_ends t row_of _ _ _ _ (omega (arith, c.loop-row-test.false)) (c.loop-row.invariant.each t); long = c.loop-row.invariant.long }
