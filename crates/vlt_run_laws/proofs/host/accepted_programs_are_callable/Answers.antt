use Rattle.vlt_run_laws.proofs.OfHost.Callable.{callable}
use Rattle.vlt_run_laws.proofs.host.accepted_programs_are_callable.Goals as goal

pub returns : goal.returns
returns c = callable
