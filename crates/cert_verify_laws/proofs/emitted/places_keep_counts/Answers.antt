use Rattle.cert_verify_laws.proofs.Emitting.{same_count}
use Rattle.cert_verify_laws.proofs.emitted.places_keep_counts.Goals as goal

pub returns : goal.returns
returns c = λ p. same_count p.fns
