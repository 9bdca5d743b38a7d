use Rattle.c_lower_runs.proofs.Theorem.{lowered_right, lowered_same, lowered_defined}
use Rattle.c_lower_runs.proofs.programs_are_lowered_rightly.Goals as goal

pub returns-clause-right : goal.returns-clause-right
returns-clause-right c = lowered_right

pub returns-clause-same : goal.returns-clause-same
returns-clause-same c = lowered_same

pub returns-clause-defined : goal.returns-clause-defined
returns-clause-defined c = lowered_defined
