-- What is promised of the arms of a switch.
use Rattle.vlt_core.specs.Core.{Arms, no_arms, arm, Func}
use Rattle.vlt_meaning.specs.Run.{Setup, Meaning}
use Rattle.vlt_sound_statements.specs.Statements.{IsSafeBlock}

-- the block of each arm is safe
abbrev pub AreSafeArms : Setup → Meaning → Func → Arms → Type 0
AreSafeArms r rest_of f no_arms = Unit {0}
AreSafeArms r rest_of f (arm c vs b rest) = IsSafeBlock r rest_of f b × AreSafeArms r rest_of f rest
