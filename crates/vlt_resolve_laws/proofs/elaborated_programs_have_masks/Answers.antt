use Rattle.vlt_resolve_laws.proofs.Masks.{elaborated_masks}
use Rattle.vlt_resolve_laws.proofs.elaborated_programs_have_masks.Goals as goal

pub returns : goal.returns
returns c = elaborated_masks
