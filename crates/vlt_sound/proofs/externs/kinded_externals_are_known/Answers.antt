use Rattle.vlt_sound.proofs.HeadsLaws.{has_hosts}
use Rattle.vlt_sound.proofs.externs.kinded_externals_are_known.Goals as goal

pub returns : goal.returns
returns c = λ p kinded narrow. has_hosts p kinded narrow
