use Rattle.std.proofs.Common.{drop, ◌-◌, length}
use Rattle.cert_check.specs.Notes.{AreOrdered}
use Rattle.cert_check.proofs.ordered.are_ordered.Given as goal

abbrev pub invariant-loop-j : goal.invariant-loop-j
invariant-loop-j l = AreOrdered l.instance (drop (length l.notes - l.j) l.notes)
