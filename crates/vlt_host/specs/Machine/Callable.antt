-- What a machine that a host calls asks of a program, and which calls it takes.
use Rattle.std.specs.Prelude.{◌≡◌, ℕ, Bool, false, List, Option, None, Some, slice_get}
use Rattle.vlt_core.specs.Core.{Func, Program}
use Rattle.vlt_meaning.specs.World.{Object}
use Rattle.vlt_interp.specs.Tasks.Own.{HasOwn}
use Rattle.vlt_host_meaning.specs.Calls.{Argument}
use Rattle.vlt_host_meaning.specs.Permitted.{is_permitted}
use Rattle.vlt_host_laws.specs.Calls.{TakesCalls}
use Rattle.vlt_host_laws.specs.Results.{GivesResults}
use Rattle.vlt_host_acts.specs.Permits.Arguments.{HasClauseKeys}
use Rattle.vlt_host.specs.Machine.Started.{KnowsStartedCalls}

-- the laws on programs that are elaborated and accepted give all of it
pub record IsCallable (p : Program) : Type 0 where
  pub own : HasOwn p
  pub keys : (i : ℕ) (f : Func) → slice_get p.fns i ≡ Some f → HasClauseKeys f
  pub takes : TakesCalls p
  pub results : GivesResults p
  pub knows : KnowsStartedCalls p

abbrev pub may_call_in : Program → (number : ℕ) → Option Func → List Argument → List Object → Bool
may_call_in p i None args objects = false
may_call_in p i (Some f) args objects = is_permitted p i f args objects

-- the call of the function of a number is permitted
abbrev pub may_call : Program → (number : ℕ) → List Argument → List Object → Bool
may_call p i args objects = may_call_in p i (slice_get p.fns i) args objects
