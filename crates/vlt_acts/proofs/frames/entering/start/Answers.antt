use Rattle.vlt_acts.proofs.OfFrames.Standing.{first_shown}
use Rattle.vlt_acts.proofs.frames.entering.start.Goals as goal

pub returns-clause-shows : goal.returns-clause-shows
returns-clause-shows c = λ items depth. first_shown items c.run.new.self depth
