use Rattle.cert_fit_laws.proofs.Proper.{all_proper}
use Rattle.cert_fit_laws.proofs.programs.certificates_are_proper.Goals as goal

pub returns : goal.returns
returns c = all_proper
