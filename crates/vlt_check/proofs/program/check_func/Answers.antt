use Rattle.vlt_core.specs.View.{program_of, func_of}
use Rattle.vlt_check.proofs.Listed.{body_least, body_refused, body_unfit}
use Rattle.vlt_check.proofs.program.check_func.Goals as goal

pub returns-else-f-clause-ok : goal.returns-else-f-clause-ok
returns-else-f-clause-ok c = body_least (program_of c.args.p.now) (func_of c.args.f.now) _ c.if-f.false c.check_instances.ensures.ok

pub returns-else-f-clause-refused : goal.returns-else-f-clause-refused
returns-else-f-clause-refused c = body_refused (program_of c.args.p.now) (func_of c.args.f.now) _ _ c.if-f.false c.check_instances.ensures.refused

pub returns-else-f-clause-unfit : goal.returns-else-f-clause-unfit
returns-else-f-clause-unfit c = body_unfit (program_of c.args.p.now) (func_of c.args.f.now) _ c.if-f.false c.check_instances.ensures.unfit
