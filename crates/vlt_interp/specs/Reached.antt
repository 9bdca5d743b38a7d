-- What a machine asks of a program.
use Rattle.vlt_core.specs.Core.{Program}
use Rattle.vlt_interp.specs.Calls.Known.{KnowsItsCalls}
use Rattle.vlt_sound.specs.Promise.{NeverGoesWrong}
use Rattle.vlt_interp.specs.Tasks.Own.{HasOwn}

-- the laws on programs that are elaborated and accepted give all of it
pub record IsRunnable (p : Program) : Type 0 where
  pub never : NeverGoesWrong p
  pub own : HasOwn p
  pub calls : KnowsItsCalls p
