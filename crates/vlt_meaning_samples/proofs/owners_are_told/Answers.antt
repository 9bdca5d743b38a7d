use Rattle.std.proofs.Common.{refl}
use Rattle.vlt_meaning_samples.specs.Told.{told_run}
use Rattle.vlt_meaning_samples.proofs.owners_are_told.Goals as goal

pub returns-clause-adoption : goal.returns-clause-adoption
unfolding told_run
returns-clause-adoption c = (refl, (refl, (refl, tt)))

pub returns-clause-focus : goal.returns-clause-focus
unfolding told_run
returns-clause-focus c = (refl, tt)

pub returns-clause-states : goal.returns-clause-states
unfolding told_run
returns-clause-states c = (refl, tt)

pub returns-clause-lists : goal.returns-clause-lists
unfolding told_run
returns-clause-lists c = (refl, (refl, tt))
