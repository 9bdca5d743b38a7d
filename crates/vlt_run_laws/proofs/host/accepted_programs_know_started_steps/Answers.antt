use Rattle.vlt_run_laws.proofs.OfHost.StartedLaws.{knows_started}
use Rattle.vlt_run_laws.proofs.host.accepted_programs_know_started_steps.Goals as goal

pub returns : goal.returns
returns c = knows_started
