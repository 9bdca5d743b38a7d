use Rattle.std.proofs.Common.{refl}
use Rattle.vlt_meaning_samples.specs.Told.{told_run}
use Rattle.vlt_meaning_samples.proofs.faults_are_told.Goals as goal

pub returns-clause-again : goal.returns-clause-again
unfolding told_run
returns-clause-again c = (refl, tt)

pub returns-clause-kept : goal.returns-clause-kept
unfolding told_run
returns-clause-kept c = (refl, tt)

pub returns-clause-raw : goal.returns-clause-raw
unfolding told_run
returns-clause-raw c = (refl, tt)

pub returns-clause-field : goal.returns-clause-field
unfolding told_run
returns-clause-field c = (refl, tt)

pub returns-clause-turn : goal.returns-clause-turn
unfolding told_run
returns-clause-turn c = (refl, tt)

pub returns-clause-stale : goal.returns-clause-stale
unfolding told_run
returns-clause-stale c = (refl, tt)

pub returns-clause-lent : goal.returns-clause-lent
unfolding told_run
returns-clause-lent c = (refl, tt)

pub returns-clause-unfocused : goal.returns-clause-unfocused
unfolding told_run
returns-clause-unfocused c = (refl, tt)

pub returns-clause-itself : goal.returns-clause-itself
unfolding told_run
returns-clause-itself c = (refl, tt)

pub returns-clause-parted : goal.returns-clause-parted
unfolding told_run
returns-clause-parted c = (refl, tt)

pub returns-clause-callee : goal.returns-clause-callee
unfolding told_run
returns-clause-callee c = (refl, tt)

pub returns-clause-twice : goal.returns-clause-twice
unfolding told_run
returns-clause-twice c = (refl, tt)

pub returns-clause-filled : goal.returns-clause-filled
unfolding told_run
returns-clause-filled c = (refl, tt)
