use Rattle.vlt_core.specs.Bodies.{flow_of}
use Rattle.vlt_core.specs.Instances.{instance}
use Rattle.vlt_core.specs.View.{program_of, func_of, form_of}
use Rattle.vlt_paths.proofs.Pairing.{led_on}
use Rattle.vlt_paths.proofs.along.go_on.Goals as goal

pub returns : goal.returns
returns c ts l =
    led_on c.args.hunt c.args.at (flow_of (program_of c.args.p.now) (instance (program_of c.args.p.now) (func_of c.args.f.now) c.args.hunt.origin) ts (form_of c.args.form.now)) c.args.point c.go_form.result c.next.result (c.go_form.ensures ts l) c.next.ensures
