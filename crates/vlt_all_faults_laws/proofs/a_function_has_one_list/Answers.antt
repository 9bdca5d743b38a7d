use Rattle.vlt_all_faults_laws.proofs.Once.{one_findings}
use Rattle.vlt_all_faults_laws.proofs.a_function_has_one_list.Goals as goal

pub returns : goal.returns
returns c = λ p f. one_findings p f
