use Rattle.vlt_all_faults_lines.proofs.Beginning.{begins}
use Rattle.vlt_all_faults_lines.proofs.faults_begin_with_the_first.Goals as goal

pub returns : goal.returns
returns c = λ p text lines x f first there told. begins text p lines x f (c.listings_begin_with_the_first_fault.ensures p) first there told
