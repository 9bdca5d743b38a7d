use Rattle.cert_format_laws.proofs.Answering.{one_reading}
use Rattle.cert_format_laws.proofs.texts_have_one_reading.Goals as goal

pub returns : goal.returns
returns c = one_reading
