use Rattle.vlt_check_laws.proofs.Formed.{none_accepted}
use Rattle.vlt_check_laws.proofs.accepted_has_no_witness.Goals as goal

pub returns : goal.returns
returns c = none_accepted
