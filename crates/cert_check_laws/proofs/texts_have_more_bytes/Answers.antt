use Rattle.cert_check_laws.proofs.Counts.{few_statements}
use Rattle.cert_check_laws.proofs.texts_have_more_bytes.Goals as goal

pub returns : goal.returns
returns c = few_statements
