use Rattle.cert_write.proofs.Going.{StmtsGoing, ArmsGoing}
use Rattle.cert_write.proofs.walk.+walk.Given as goal

abbrev pub invariant-put_stmts-loop-stmt : goal.invariant-put_stmts-loop-stmt
invariant-put_stmts-loop-stmt l = StmtsGoing l.bound l.annotations l.stmts l.fn.from.next l.fn.out l.stmt-index l.out l.to

abbrev pub invariant-put_arms-loop-arm : goal.invariant-put_arms-loop-arm
invariant-put_arms-loop-arm l = ArmsGoing l.bound l.annotations l.arms l.fn.from.next l.fn.out l.arm-index l.out l.to
