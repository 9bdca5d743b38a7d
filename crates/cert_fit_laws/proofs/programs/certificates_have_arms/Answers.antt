use Rattle.cert_fit_laws.proofs.Arms.{have_arms}
use Rattle.cert_fit_laws.proofs.Formed.{formed}
use Rattle.cert_fit_laws.proofs.programs.certificates_have_arms.Goals as goal

pub returns : goal.returns
returns c = λ ordered p all fits kinded g f at. let is = formed ordered p all fits in have_arms p g f is.some_cases (is.blank g f at) kinded at
