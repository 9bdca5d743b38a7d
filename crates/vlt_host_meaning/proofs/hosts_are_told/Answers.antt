use Rattle.std.proofs.Common.{refl}
use Rattle.vlt_host_meaning.specs.Samples.Told.{told_run}
use Rattle.vlt_host_meaning.proofs.hosts_are_told.Goals as goal

pub returns-clause-driver : goal.returns-clause-driver
unfolding told_run
returns-clause-driver c = (refl, (refl, (refl, (refl, (refl, (refl, (refl, tt)))))))

pub returns-clause-permitted : goal.returns-clause-permitted
unfolding told_run
returns-clause-permitted c = (refl, (refl, (refl, (refl, (refl, (refl, (refl, (refl, (refl, (refl, tt))))))))))

pub returns-clause-levels : goal.returns-clause-levels
unfolding told_run
returns-clause-levels c = (refl, (refl, (refl, (refl, (refl, (refl, tt))))))
