use Rattle.cert_write.proofs.OfJsonLaws.Programs.{read_back, certificate}
use Rattle.cert_write.proofs.json_laws.compact_texts_are_read_back.Goals as goal

pub returns-clause-read_back : goal.returns-clause-read_back
returns-clause-read_back c = read_back

pub returns-clause-certificate : goal.returns-clause-certificate
returns-clause-certificate c = certificate
