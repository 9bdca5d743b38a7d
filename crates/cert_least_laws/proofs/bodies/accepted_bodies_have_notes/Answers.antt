use Rattle.cert_least_laws.proofs.OfBodies.Noting.{have_notes}
use Rattle.cert_least_laws.proofs.bodies.accepted_bodies_have_notes.Goals as goal

pub returns : goal.returns
returns c = have_notes
