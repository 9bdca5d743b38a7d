use Rattle.vlt_resolve_laws.proofs.OfKindsLaws.Whole.{head_unbroken}
use Rattle.vlt_resolve_laws.proofs.kinds_laws.heads_are_kinded.Goals as goal

pub returns : goal.returns
returns c = head_unbroken
