use Rattle.vlt_all_faults_laws.proofs.Accepted.{none_all}
use Rattle.vlt_all_faults_laws.proofs.accepted_programs_have_none.Goals as goal

pub returns : goal.returns
returns c = none_all
