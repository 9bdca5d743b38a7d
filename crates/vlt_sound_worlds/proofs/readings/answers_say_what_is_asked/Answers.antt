use Rattle.vlt_sound_worlds.proofs.Reading.{answer_said}
use Rattle.vlt_sound_worlds.proofs.readings.answers_say_what_is_asked.Goals as goal

pub returns : goal.returns
returns c = answer_said
