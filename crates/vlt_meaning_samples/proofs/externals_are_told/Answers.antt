use Rattle.std.proofs.Common.{refl}
use Rattle.vlt_core.specs.Lookups.{leads_up}
use Rattle.vlt_meaning_samples.specs.Told.{told_run}
use Rattle.vlt_meaning_samples.proofs.externals_are_told.Goals as goal

pub returns-clause-sockets : goal.returns-clause-sockets
unfolding told_run
returns-clause-sockets c = (refl, (refl, (refl, (refl, tt))))

pub returns-clause-locks : goal.returns-clause-locks
unfolding told_run
returns-clause-locks c = (refl, tt)

pub returns-clause-requests : goal.returns-clause-requests
unfolding told_run
returns-clause-requests c = (refl, (refl, (refl, tt)))

pub returns-clause-levels : goal.returns-clause-levels
unfolding told_run leads_up
returns-clause-levels c = (refl, (refl, tt))

pub returns-clause-raised : goal.returns-clause-raised
unfolding told_run leads_up
returns-clause-raised c = (refl, (refl, tt))

pub returns-clause-read : goal.returns-clause-read
unfolding leads_up
returns-clause-read c = (refl, refl, refl, refl)
