use Rattle.cert_write.proofs.Tables.{TypesGoing}
use Rattle.cert_write.proofs.program.put_types.Given as goal

abbrev pub invariant-loop-declared : goal.invariant-loop-declared
invariant-loop-declared l = TypesGoing l.types l.fn.out l.declared-index l.out
