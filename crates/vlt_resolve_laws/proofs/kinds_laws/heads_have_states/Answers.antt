use Rattle.vlt_resolve_laws.proofs.OfKindsLaws.HeadStates.{heads_filled}
use Rattle.vlt_resolve_laws.proofs.kinds_laws.heads_have_states.Goals as goal

pub returns : goal.returns
returns c = heads_filled
