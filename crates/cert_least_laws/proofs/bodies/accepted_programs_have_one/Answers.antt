use Rattle.cert_least_laws.proofs.OfBodies.Programs.{have_one}
use Rattle.cert_least_laws.proofs.bodies.accepted_programs_have_one.Goals as goal

pub returns : goal.returns
returns c = have_one
