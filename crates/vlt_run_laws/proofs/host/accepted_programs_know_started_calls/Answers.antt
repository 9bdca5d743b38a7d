use Rattle.vlt_run_laws.proofs.OfHost.StartedLaws.{knows_started_calls}
use Rattle.vlt_run_laws.proofs.host.accepted_programs_know_started_calls.Goals as goal

pub returns : goal.returns
returns c = knows_started_calls
