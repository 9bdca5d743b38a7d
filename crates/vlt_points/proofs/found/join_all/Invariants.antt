use Rattle.vlt_points.proofs.Founds.{Joining}
use Rattle.vlt_points.proofs.found.join_all.Given as goal

abbrev pub invariant-loop-i : goal.invariant-loop-i
invariant-loop-i l = Joining l.others l.fn.ones.items l.i l.grew l.ones.items
