use Rattle.cert_check_laws.proofs.Fitness.{have_an_answer}
use Rattle.cert_check_laws.proofs.certificates_have_an_answer.Goals as goal

pub returns : goal.returns
returns c = have_an_answer
