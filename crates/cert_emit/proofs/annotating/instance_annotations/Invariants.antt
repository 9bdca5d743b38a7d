use Rattle.cert_emit.proofs.EachFunction.{Walking}
use Rattle.cert_emit.proofs.annotating.instance_annotations.Given as goal

abbrev pub invariant-loop-origin : goal.invariant-loop-origin
invariant-loop-origin l = Walking l.p l.f l.origin-items l.origin-index l.own
