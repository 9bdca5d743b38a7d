use Rattle.c_lower_accepted.proofs.Accepted.{accepted_alike, accepted_defined}
use Rattle.c_lower_accepted.proofs.accepted_programs_are_lowered_rightly.Goals as goal

pub returns-clause-alike : goal.returns-clause-alike
returns-clause-alike c = accepted_alike

pub returns-clause-defined : goal.returns-clause-defined
returns-clause-defined c = accepted_defined
