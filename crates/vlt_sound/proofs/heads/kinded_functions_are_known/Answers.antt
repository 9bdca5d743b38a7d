use Rattle.vlt_sound.proofs.Functions.{has_functions}
use Rattle.vlt_sound.proofs.heads.kinded_functions_are_known.Goals as goal

pub returns : goal.returns
returns c = λ p kinded sizes. has_functions p kinded sizes
