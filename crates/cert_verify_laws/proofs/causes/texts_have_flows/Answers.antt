use Rattle.std.proofs.Common.{subst}
use Rattle.cert_fit_laws.specs.Limits.{IsLimitedProgram}
use Rattle.vlt_fit_laws.specs.Fit.{IsFitProgram}
use Rattle.cert_verify_laws.specs.Causes.{HasFlows}
use Rattle.cert_verify_laws.proofs.Emitting.{text_tree}
use Rattle.cert_verify_laws.proofs.Flows.{have_flows}
use Rattle.cert_verify_laws.proofs.causes.texts_have_flows.Goals as goal

pub returns : goal.returns
returns c = λ p is.
    let code = c.texts_are_of_code.ensures p is in
    let fit = c.programs_are_fit.ensures is.tree is.kinds p (text_tree p is) is.elaborated.told is.elaborated.gives in
    subst (λ p. IsFitProgram p → IsLimitedProgram p → HasFlows p) code.is (have_flows code.program) fit (c.texts_are_limited.ensures p is)
