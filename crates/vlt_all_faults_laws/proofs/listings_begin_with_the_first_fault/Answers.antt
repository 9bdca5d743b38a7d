use Rattle.vlt_all_faults_laws.proofs.First.{begins_with_first}
use Rattle.vlt_all_faults_laws.proofs.listings_begin_with_the_first_fault.Goals as goal

pub returns : goal.returns
returns c = begins_with_first
