use Rattle.cert_fit_laws.proofs.Local.{accepted}
use Rattle.cert_fit_laws.proofs.programs.certificates_are_accepted.Goals as goal

pub returns : goal.returns
returns c = accepted
