use Rattle.vlt_all_faults_laws.proofs.Once.{one_listing}
use Rattle.vlt_all_faults_laws.proofs.a_program_has_one_listing.Goals as goal

pub returns : goal.returns
returns c = λ p. one_listing p p.fns
