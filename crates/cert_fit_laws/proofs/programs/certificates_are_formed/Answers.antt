use Rattle.cert_fit_laws.proofs.Formed.{formed}
use Rattle.cert_fit_laws.proofs.programs.certificates_are_formed.Goals as goal

pub returns : goal.returns
returns c = formed
