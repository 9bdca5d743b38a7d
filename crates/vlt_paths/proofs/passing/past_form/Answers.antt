use Rattle.vlt_paths.proofs.Taking.{all_past}
use Rattle.vlt_paths.proofs.passing.past_form.Goals as goal

pub returns : goal.returns
returns c = all_past _ _ _ _ c.give_form-all.ensures
