use Rattle.cert_write.proofs.Tables.{FnsGoing}
use Rattle.cert_write.proofs.program.put_fns.Given as goal

abbrev pub invariant-loop-f : goal.invariant-loop-f
invariant-loop-f l = FnsGoing l.fns l.fn.notes l.fn.out l.f-index l.left l.out
