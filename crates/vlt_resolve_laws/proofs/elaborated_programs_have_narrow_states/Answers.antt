use Rattle.vlt_resolve_laws.proofs.Narrow.{elaborated_narrow}
use Rattle.vlt_resolve_laws.proofs.elaborated_programs_have_narrow_states.Goals as goal

pub returns : goal.returns
returns c = elaborated_narrow
