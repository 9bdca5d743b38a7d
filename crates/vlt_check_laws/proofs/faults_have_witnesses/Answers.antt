use Rattle.vlt_check_laws.proofs.Formed.{formed_fault_shown}
use Rattle.vlt_check_laws.proofs.faults_have_witnesses.Goals as goal

pub returns : goal.returns
returns c = formed_fault_shown
