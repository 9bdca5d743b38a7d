use Rattle.vlt_resolve_laws.proofs.OfKindsLaws.Headers.{declarations_described}
use Rattle.vlt_resolve_laws.proofs.kinds_laws.declarations_are_described.Goals as goal

pub returns : goal.returns
returns c = declarations_described
