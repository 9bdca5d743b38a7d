use Rattle.vlt_meaning_samples.proofs.Levels.{broken}
use Rattle.vlt_meaning_samples.proofs.levels_are_refused.Goals as goal

pub returns : goal.returns
returns c = broken
