-- What is known of a function and of what its statements are made of.
use Rattle.vlt_core.specs.Core.{Simple, Func}
use Rattle.vlt_meaning.specs.Run.{Setup, Meaning}
use Rattle.vlt_sound_worlds.specs.Typed.{IsTyped}
use Rattle.vlt_sound_worlds.specs.Scoped.{HasKeys}
use Rattle.vlt_sound_statements.specs.Makings.{HasCases}
use Rattle.vlt_sound_statements.specs.Steps.{IsStepOf}
use Rattle.vlt_sound_calls.specs.Heads.{HasHead}
use Rattle.vlt_sound_calls.specs.Calls.{CallsAreSafe, ReturnsAreSafe}

-- The rules on names and types hold of the function, and its statements without blocks, calls and returns are safe.
pub record HasSafeParts (r : Setup) (rest_of : Meaning) (f : Func) : Type 0 where
  pub typed : IsTyped r.program f
  pub keyed : HasKeys f
  pub headed : HasHead r.program f
  pub cased : HasCases r.program f
  pub steps : (s : Simple) → IsStepOf r f s
  pub calls : CallsAreSafe r rest_of
  pub returns : ReturnsAreSafe r rest_of
