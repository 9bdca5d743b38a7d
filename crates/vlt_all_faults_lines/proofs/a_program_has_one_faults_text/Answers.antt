use Rattle.vlt_all_faults_lines.proofs.Beginning.{one_text}
use Rattle.vlt_all_faults_lines.proofs.a_program_has_one_faults_text.Goals as goal

pub returns : goal.returns
returns c = λ p. one_text p (c.a_program_has_one_listing.ensures p)
