use Rattle.cert_format_laws.proofs.Texts.{written}
use Rattle.cert_format_laws.proofs.certificates_are_written.Goals as goal

pub returns : goal.returns
returns c = written
