use Rattle.cert_least_laws.proofs.Completing.{complete_certificate}
use Rattle.cert_least_laws.proofs.notes.least_certificates_are_complete.Goals as goal

pub returns : goal.returns
returns c = complete_certificate
