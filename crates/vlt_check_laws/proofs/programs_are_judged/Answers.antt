use Rattle.vlt_check_laws.proofs.Judged.{judged}
use Rattle.vlt_check_laws.proofs.programs_are_judged.Goals as goal

pub returns : goal.returns
returns c = λ p well. judged p well
