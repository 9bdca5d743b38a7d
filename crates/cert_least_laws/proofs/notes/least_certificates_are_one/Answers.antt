use Rattle.cert_least_laws.proofs.OneCertificate.{one_certificate}
use Rattle.cert_least_laws.proofs.notes.least_certificates_are_one.Goals as goal

pub returns : goal.returns
returns c = one_certificate
