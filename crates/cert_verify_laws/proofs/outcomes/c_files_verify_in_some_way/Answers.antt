use Rattle.cert_verify_laws.proofs.Answered.{answered}
use Rattle.cert_verify_laws.proofs.outcomes.c_files_verify_in_some_way.Goals as goal

pub returns : goal.returns
returns c = c.texts_verify_in_some_way.ensures (answered c.certificates_are_of_code.ensures c.certificates_have_an_answer.ensures)
