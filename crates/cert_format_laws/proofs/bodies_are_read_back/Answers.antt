use Rattle.cert_format_laws.proofs.BodyWritten.{read_back}
use Rattle.cert_format_laws.proofs.bodies_are_read_back.Goals as goal

pub returns : goal.returns
returns c = read_back
