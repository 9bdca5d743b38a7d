use Rattle.vlt_verdict.proofs.Single.{programs_have_one}
use Rattle.vlt_verdict.proofs.programs_have_one_verdict.Goals as goal

pub returns : goal.returns
returns c = programs_have_one c.there_is_one_first_fault.ensures c.accepted_has_no_fault.ensures.no_first
