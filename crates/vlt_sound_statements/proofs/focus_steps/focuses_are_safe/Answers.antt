use Rattle.vlt_sound_statements.proofs.Focuses.{focus_is_safe}
use Rattle.vlt_sound_statements.proofs.focus_steps.focuses_are_safe.Goals as goal

pub returns : goal.returns
returns c = λ r rest_of f y z b typed keyed safe. focus_is_safe r rest_of f typed keyed y z b safe
