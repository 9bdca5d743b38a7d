use Rattle.std.proofs.Common.{Err, ap, ◌∙◌}
use Rattle.cert_check.proofs.Causes.{unfit_cause}
use Rattle.cert_check.proofs.bodies.flow_of.Goals as goal

pub returns-in-Err-Unfit : goal.returns-in-Err-Unfit
returns-in-Err-Unfit c = unfit_cause _ c.body_flow.result c.body_flow.ensures (c.in-Err-Unfit.is ∙ ap (λ x. Err x) c.in-Err-Unfit.field-0-is)
