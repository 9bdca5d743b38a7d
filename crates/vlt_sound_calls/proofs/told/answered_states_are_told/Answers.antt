use Rattle.vlt_sound_calls.proofs.Telling.{agrees_told}
use Rattle.vlt_sound_calls.proofs.told.answered_states_are_told.Goals as goal

pub returns : goal.returns
returns clause = λ p f g c h ids hand frame os keys es states agrees t go. agrees_told p f g c ids hand frame keys es states go os h t agrees
