use Rattle.std.proofs.Common.{◌<◌, length, arith, subst}
use Rattle.std.proofs.lemmas.List.{get_or_read}
use Rattle.vlt_faults.specs.Finding.Marks.{slot, no_ones, IsInto}
use Rattle.vlt_points.proofs.Founds.{joining_first, joining_more, joining_ends}
use Rattle.vlt_points.proofs.found.join_all.Goals as goal

pub loop-i-init : goal.loop-i-init
loop-i-init c = joining_first _ _

pub loop-i-preserved : goal.loop-i-preserved
loop-i-preserved c =
    let lt : c.loop-i.i < length c.args.others.now = omega (arith, c.loop-i-test.true) in
    let f = c.in_ok-more.ensures in
    joining_more _ _ _ _ _ _ _ lt c.loop-i.invariant f.some f.long (subst (λ x. IsInto x (slot c.loop-i.ones.items c.loop-i.i) (slot c.join_at.new.ones.items c.loop-i.i)) (get_or_read _ _ c.index-others-i.result lt c.index-others-i.is no_ones) f.into) f.others f.closer _ c.either-grew.ensures

pub returns : goal.returns
returns c = record { join = joining_ends _ _ _ _ _ (omega (arith, c.loop-i-test.false)) c.loop-i.invariant; closer = c.loop-i.invariant.closer }
