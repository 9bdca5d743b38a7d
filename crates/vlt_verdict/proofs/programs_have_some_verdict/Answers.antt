use Rattle.vlt_verdict.proofs.Some.{programs_have_some}
use Rattle.vlt_verdict.proofs.programs_have_some_verdict.Goals as goal

pub returns : goal.returns
returns c = programs_have_some c.programs_are_judged.ensures
