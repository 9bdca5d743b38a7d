use Rattle.vlt_run_laws.proofs.CallsWhole.{knows_its_calls}
use Rattle.vlt_run_laws.proofs.accepted_programs_know_their_calls.Goals as goal

pub returns : goal.returns
returns c = knows_its_calls
