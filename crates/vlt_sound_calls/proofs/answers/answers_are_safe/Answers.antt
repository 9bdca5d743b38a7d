use Rattle.vlt_sound_calls.proofs.HostResults.{answers_safe}
use Rattle.vlt_sound_calls.proofs.answers.answers_are_safe.Goals as goal

pub returns : goal.returns
returns c = λ r. answers_safe r
