use Rattle.cert_fit_laws.proofs.States.{have_states}
use Rattle.vlt_core.specs.View.{program_of}
use Rattle.cert_fit_laws.proofs.Formed.{formed}
use Rattle.cert_fit_laws.proofs.programs.certificates_have_states.Goals as goal

pub returns : goal.returns
returns c = λ ordered p all fits kinded. have_states p (formed ordered (program_of p) all fits) kinded
