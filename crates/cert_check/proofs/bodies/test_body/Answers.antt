use Rattle.vlt_core.specs.Instances.{instance}
use Rattle.vlt_core.specs.View.{program_of, func_of}
use Rattle.cert_check.specs.Unfit.{no_flow, no_start}
use Rattle.cert_check.proofs.Causes.{error_is}
use Rattle.cert_check.proofs.Deciding.{unless_before, body_told}
use Rattle.cert_check.proofs.bodies.test_body.Goals as goal

pub returns-in_err-flow : goal.returns-in_err-flow
returns-in_err-flow c = unless_before _ _ _ _ _ c.from_residual.ensures.1 (error_is _ _ _ _ c.in_err-flow.was c.flow_of.ensures) no_flow

pub returns-in_err-start : goal.returns-in_err-start
returns-in_err-start c = unless_before _ _ _ _ _ c.from_residual-in_err-start.ensures.1 (error_is _ _ _ _ c.in_err-start.was c.start_of.ensures) no_start

pub returns : goal.returns
returns c = body_told (program_of c.args.p.now) (instance (program_of c.args.p.now) (func_of c.args.f.now) c.args.origin) _ _ _ c.in_ok-flow.ensures c.in_ok-start.ensures _ c.test_flow.ensures
