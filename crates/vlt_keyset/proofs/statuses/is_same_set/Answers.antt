use Rattle.std.proofs.lemmas.Bool.{eqb-true, eq-eqb}
use Rattle.vlt_keyset.proofs.Sets.{same_by_masks, masks_of_same}
use Rattle.vlt_keyset.proofs.statuses.is_same_set.Goals as goal

pub returns : goal.returns
returns c = (
  λ t. same_by_masks _ _ _ _ c.mask.ensures.states c.mask-2.ensures.states (eqb-true _ _ t),
  λ e. eq-eqb _ _ (masks_of_same _ _ _ _ c.mask.ensures.states c.mask-2.ensures.states e),
)
