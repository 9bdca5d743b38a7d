use Rattle.vlt_resolve_laws.proofs.OfKindsLaws.Filled.{declarations_filled}
use Rattle.vlt_resolve_laws.proofs.kinds_laws.declarations_have_states.Goals as goal

pub returns : goal.returns
returns c = declarations_filled
