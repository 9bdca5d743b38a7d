use Rattle.std.proofs.Common.{arith, refl, ◌∷◌, []}
use Rattle.std.proofs.lemmas.List.{length-append}
use Rattle.vlt_points.proofs.Keeps.{none_more}
use Rattle.vlt_points.proofs.kept.nothings.Goals as goal

pub loop-i-init : goal.loop-i-init
loop-i-init c = rw c.in_ok-table.ensures.items (record { long = refl; none = λ i. refl })

pub loop-i-preserved : goal.loop-i-preserved
loop-i-preserved c = rw c.in_ok-push.ensures.items (record {
  long = omega (arith, length-append c.loop-i.table.items (c.nothing.result ∷ []), c.loop-i.invariant.long);
  none = none_more c.loop-i.table.items c.nothing.result c.nothing.ensures c.loop-i.invariant.none;
})
