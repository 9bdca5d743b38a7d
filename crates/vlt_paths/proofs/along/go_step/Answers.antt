use Rattle.vlt_core.specs.Instances.{instance}
use Rattle.vlt_core.specs.View.{program_of, func_of, form_of}
use Rattle.vlt_paths.proofs.Choosing.{step_goes}
use Rattle.vlt_paths.proofs.along.go_step.Goals as goal

pub returns : goal.returns
returns c ts =
    step_goes (program_of c.args.p.now) (instance (program_of c.args.p.now) (func_of c.args.f.now) c.args.hunt.origin) c.args.hunt ts (form_of c.args.form.now) c.args.at c.args.point c.past_form.result c.requires c.past_form.ensures
