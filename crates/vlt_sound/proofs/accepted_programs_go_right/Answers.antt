use Rattle.vlt_sound.proofs.Whole.{promises}
use Rattle.vlt_sound.proofs.accepted_programs_go_right.Goals as goal

pub returns-clause-never : goal.returns-clause-never
returns-clause-never c = λ p kinded accepted sizes filled narrow. (promises p kinded accepted sizes filled narrow).0

pub returns-clause-leaves : goal.returns-clause-leaves
returns-clause-leaves c = λ p kinded accepted sizes filled narrow. (promises p kinded accepted sizes filled narrow).1
