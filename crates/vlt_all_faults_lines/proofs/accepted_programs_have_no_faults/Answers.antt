use Rattle.vlt_all_faults_lines.proofs.Beginning.{none_text}
use Rattle.vlt_all_faults_lines.proofs.accepted_programs_have_no_faults.Goals as goal

pub returns : goal.returns
returns c = λ p text lines well ok told. none_text text lines p (λ all each. c.accepted_programs_have_none.ensures p all well ok each) told
