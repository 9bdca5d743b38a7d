use Rattle.vlt_check.proofs.Faultless.{none_accepted, no_first}
use Rattle.vlt_check.proofs.laws.accepted_has_no_fault.Goals as goal

pub returns-clause-none : goal.returns-clause-none
returns-clause-none c = none_accepted

pub returns-clause-no_first : goal.returns-clause-no_first
returns-clause-no_first c = no_first
