use Rattle.vlt_meaning_samples.proofs.Levels.{accepted}
use Rattle.vlt_meaning_samples.proofs.levels_are_accepted.Goals as goal

pub returns : goal.returns
returns c = accepted
