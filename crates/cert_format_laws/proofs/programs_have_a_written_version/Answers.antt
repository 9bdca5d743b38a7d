use Rattle.cert_format_laws.proofs.Versions.{written_version}
use Rattle.cert_format_laws.proofs.programs_have_a_written_version.Goals as goal

pub returns : goal.returns
returns c = written_version
