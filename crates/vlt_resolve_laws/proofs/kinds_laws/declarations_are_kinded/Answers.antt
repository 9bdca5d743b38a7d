use Rattle.vlt_resolve_laws.proofs.OfKindsLaws.Rows.{declarations_unbroken}
use Rattle.vlt_resolve_laws.proofs.kinds_laws.declarations_are_kinded.Goals as goal

pub returns : goal.returns
returns c = declarations_unbroken
