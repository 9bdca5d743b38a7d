use Rattle.std.proofs.lemmas.Result.{IfOk-weaker}
use Rattle.vlt_core.specs.Instances.{instance}
use Rattle.vlt_core.specs.View.{program_of, func_of}
use Rattle.vlt_flow.specs.declared.errors.Stop.{Stop}
use Rattle.vlt_flow.proofs.Stopping.{stop_through}
use Rattle.vlt_flow.proofs.FromStart.{least_in, none_in}
use Rattle.vlt_flow.specs.Unfit.{no_start}
use Rattle.vlt_flow.proofs.Unfitting.{unfit_stop}
use Rattle.vlt_flow.proofs.walk.Goals as goal

pub returns-clause-ok : goal.returns-clause-ok
returns-clause-ok c = IfOk-weaker {Y = Stop} _ _ _ (λ k q. least_in (program_of c.args.p.now) (instance (program_of c.args.p.now) (func_of c.args.f.now) c.args.origin) _ _ k c.in_ok-flow.ensures c.in_ok-start.ensures.map q) c.least_maps.ensures.ok

pub returns-clause-refused : goal.returns-clause-refused
returns-clause-refused c =
    stop_through _ _ (λ e. e) (λ never. none_in (program_of c.args.p.now) (instance (program_of c.args.p.now) (func_of c.args.f.now) c.args.origin) _ _ c.in_ok-flow.ensures c.in_ok-start.ensures.map never) c.least_maps.ensures.refused

pub returns-in_err-start-clause-unfit : goal.returns-in_err-start-clause-unfit
returns-in_err-start-clause-unfit c = unfit_stop _ _ c.from_residual-in_err-start.ensures.1 c.in_err-start.ensures.map (λ u. no_start u)
