use Rattle.vlt_resolve_laws.proofs.Masks.{narrow_mask}
use Rattle.vlt_resolve_laws.proofs.narrow_sets_are_masks.Goals as goal

pub returns : goal.returns
returns c = narrow_mask
