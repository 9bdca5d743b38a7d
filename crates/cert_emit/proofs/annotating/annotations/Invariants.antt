use Rattle.cert_emit.proofs.EachFunction.{Annotating}
use Rattle.cert_emit.proofs.annotating.annotations.Given as goal

abbrev pub invariant-loop-f : goal.invariant-loop-f
invariant-loop-f l = Annotating l.p l.p.fns l.f-index l.all
