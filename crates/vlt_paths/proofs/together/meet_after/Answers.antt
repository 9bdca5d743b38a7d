use Rattle.vlt_core.specs.Bodies.{flow_of}
use Rattle.vlt_core.specs.Instances.{instance}
use Rattle.vlt_core.specs.View.{program_of, func_of, form_of}
use Rattle.vlt_paths.proofs.Pairing.{meets_end}
use Rattle.vlt_paths.proofs.together.meet_after.Goals as goal

pub returns : goal.returns
returns c ts l = meets_end c.args.hunt c.args.at (flow_of (program_of c.args.p.now) (instance (program_of c.args.p.now) (func_of c.args.f.now) c.args.hunt.origin) ts (form_of c.args.form.now)) c.args.end c.args.pair c.go_on.result c.is_join.result (c.go_on.ensures ts l) c.is_join.ensures
