use Rattle.vlt_sound_statements.proofs.Switches.{switch_is_safe}
use Rattle.vlt_sound_statements.proofs.switch.switches_are_safe.Goals as goal

pub returns : goal.returns
returns c = λ r rest_of f v arms end typed keyed cased safe. switch_is_safe r rest_of f typed keyed cased v arms end safe
