use Rattle.cert_emit.proofs.EachFunction.{body_annotated, with_body}
use Rattle.cert_emit.proofs.annotating.annotations_of.Goals as goal

pub returns-else-f-clause-ok : goal.returns-else-f-clause-ok
returns-else-f-clause-ok c = body_annotated c.args.p.now c.args.f.now _ c.if-f.false c.instance_annotations.ensures.ok

pub returns-else-f-clause-refused : goal.returns-else-f-clause-refused
returns-else-f-clause-refused c = with_body _ _ c.if-f.false c.instance_annotations.ensures.refused

pub returns-else-f-clause-unfit : goal.returns-else-f-clause-unfit
returns-else-f-clause-unfit c = with_body _ _ c.if-f.false c.instance_annotations.ensures.unfit
