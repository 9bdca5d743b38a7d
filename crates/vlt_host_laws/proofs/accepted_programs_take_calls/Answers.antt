use Rattle.vlt_host_laws.proofs.PastCallsLaws.{takes_calls}
use Rattle.vlt_host_laws.proofs.accepted_programs_take_calls.Goals as goal

pub returns : goal.returns
returns c = takes_calls
