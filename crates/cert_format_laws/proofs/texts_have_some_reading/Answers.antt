use Rattle.cert_format_laws.proofs.Deciding.{some_reading}
use Rattle.cert_format_laws.proofs.texts_have_some_reading.Goals as goal

pub returns : goal.returns
returns c = some_reading
