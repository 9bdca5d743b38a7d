use Rattle.vlt_resolve_laws.proofs.Proper.{elaborated_proper}
use Rattle.vlt_resolve_laws.proofs.elaborated_programs_have_proper_bodies.Goals as goal

pub returns : goal.returns
returns c = elaborated_proper
