use Rattle.vlt_core_laws.proofs.One.{one_fault}
use Rattle.vlt_core_laws.proofs.there_is_one_first_fault.Goals as goal

pub returns : goal.returns
returns c = one_fault
