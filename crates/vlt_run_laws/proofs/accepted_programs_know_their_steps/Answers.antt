use Rattle.vlt_run_laws.proofs.ReachedWhole.{knows_its_steps}
use Rattle.vlt_run_laws.proofs.accepted_programs_know_their_steps.Goals as goal

pub returns : goal.returns
returns c = knows_its_steps
