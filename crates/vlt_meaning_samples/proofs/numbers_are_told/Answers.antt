use Rattle.std.proofs.Common.{refl}
use Rattle.vlt_meaning_samples.specs.Told.{told_run}
use Rattle.vlt_meaning_samples.proofs.numbers_are_told.Goals as goal

pub returns-clause-loops : goal.returns-clause-loops
unfolding told_run
returns-clause-loops c = (refl, (refl, tt))

pub returns-clause-traps : goal.returns-clause-traps
unfolding told_run
returns-clause-traps c = (refl, tt)

pub returns-clause-zero : goal.returns-clause-zero
unfolding told_run
returns-clause-zero c = (refl, tt)

pub returns-clause-depth : goal.returns-clause-depth
unfolding told_run
returns-clause-depth c = (refl, (refl, tt))

pub returns-clause-input : goal.returns-clause-input
unfolding told_run
returns-clause-input c = (refl, tt)

pub returns-clause-names : goal.returns-clause-names
unfolding told_run
returns-clause-names c = (refl, tt)
