use Rattle.cert_least_texts.proofs.Holding.{held_certificate}
use Rattle.cert_least_texts.proofs.held.held_notes_are_local.Goals as goal

pub returns : goal.returns
returns c = held_certificate
