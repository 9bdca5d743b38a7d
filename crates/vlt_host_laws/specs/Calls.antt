-- What a machine that a host calls may count on: of each call what is promised of whole runs, wherever calls came to.
use Rattle.std.specs.Prelude.{◌≡◌, ℕ, false, true, List, Option, Some, slice_get}
use Rattle.vlt_core.specs.Core.{Func, Program}
use Rattle.vlt_meaning.specs.World.{Value, Object, World, is_fault}
use Rattle.vlt_meaning.specs.Run.{Setup, ran_of}
use Rattle.vlt_host_meaning.specs.Calls.{Argument}
use Rattle.vlt_host_meaning.specs.Permitted.{is_permitted}
use Rattle.vlt_host_meaning.specs.OneCall.{came_back, body_does, spent, host_calls}
use Rattle.vlt_host_meaning.specs.HostClean.{IsHostClean}
use Rattle.vlt_host_meaning.specs.PastCalls.{IsLeftByCalls}
use Rattle.vlt_host_laws.specs.Promise.{ChangesByClause}

-- a call whose body ends in no fault; where it comes back the clause is kept, and further calls may follow
pub record GoesRight (r : Setup) (f : Func) (args : List Argument) (w : World) : Type 0 where
  pub right : is_fault (ran_of (body_does r f args (spent w))).outcome ≡ false
  pub back : (text : List ℕ) (result : Option Value) (v : World) →
      host_calls r f args w ≡ came_back text result v →
      ChangesByClause r.program f args result w.objects v.objects × IsLeftByCalls r v.objects

-- of objects that calls left: each permitted call goes right, and nothing else is left
pub record TakesCalls (p : Program) : Type 0 where
  pub goes : (r : Setup) (w : World) (i : ℕ) (f : Func) (args : List Argument) → r.program ≡ p →
      IsLeftByCalls r w.objects → slice_get p.fns i ≡ Some f → is_permitted p i f args w.objects ≡ true →
      GoesRight r f args w
  pub leaves : (r : Setup) (objects : List Object) → r.program ≡ p → IsLeftByCalls r objects → IsHostClean objects
