use Rattle.std.proofs.Common.{arith, refl, ◌∷◌, []}
use Rattle.std.proofs.lemmas.List.{length-append}
use Rattle.vlt_faults.proofs.OfFinding.Into.{none_first, none_more}
use Rattle.vlt_faults.proofs.finding.tables.nothings.Goals as goal

pub loop-i-init : goal.loop-i-init
loop-i-init c = rw c.in_ok-table.ensures.items (refl, none_first)

pub loop-i-preserved : goal.loop-i-preserved
loop-i-preserved c = rw c.in_ok-push.ensures.items (omega (arith, length-append c.loop-i.table.items (c.nothing.result ∷ []), c.loop-i.invariant.0), none_more c.loop-i.table.items c.nothing.result c.loop-i.invariant.1 c.nothing.ensures)
