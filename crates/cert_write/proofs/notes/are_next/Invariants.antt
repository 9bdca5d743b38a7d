use Rattle.std.proofs.Common.{◌+◌, take}
use Rattle.cert_write.specs.Rows.{AreAllBefore}
use Rattle.cert_write.proofs.notes.are_next.Given as goal

abbrev pub invariant-loop-annotation : goal.invariant-loop-annotation
invariant-loop-annotation l = AreAllBefore (take l.annotation-index l.annotations) (record { next = l.from.next + 1; at = l.from.at + 1 })
