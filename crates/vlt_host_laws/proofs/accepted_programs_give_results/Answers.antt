use Rattle.vlt_host_laws.proofs.ResultsOfCalls.{gives_results}
use Rattle.vlt_host_laws.proofs.accepted_programs_give_results.Goals as goal

pub returns : goal.returns
returns c = gives_results
