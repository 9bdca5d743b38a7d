use Rattle.cert_least_laws.proofs.Holding.{local_certificate}
use Rattle.cert_least_laws.proofs.notes.least_certificates_are_local.Goals as goal

pub returns : goal.returns
returns c = local_certificate
