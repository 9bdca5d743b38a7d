use Rattle.vlt_sound_calls.proofs.Contexts.{entered_with}
use Rattle.vlt_sound_calls.proofs.calls.foci_change_no_head.Goals as goal

pub returns : goal.returns
returns c = λ p f x foci pins e. entered_with foci pins e
