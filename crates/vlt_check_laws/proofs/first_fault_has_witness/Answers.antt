use Rattle.vlt_check_laws.proofs.Formed.{formed_shown}
use Rattle.vlt_check_laws.proofs.first_fault_has_witness.Goals as goal

pub returns : goal.returns
returns c = formed_shown
