-- What a machine that a host calls may count on of results: a value is there as the function's type says, and is a number or a reference.
use Rattle.std.specs.Prelude.{◌≡◌, ℕ, ℤ, true, List, Option, None, Some, slice_get}
use Rattle.vlt_core.specs.Core.{Ty, int, bool, tracked, Func, Program}
use Rattle.vlt_meaning.specs.World.{number, reference, Value, one, World}
use Rattle.vlt_meaning.specs.Step.{leaves}
use Rattle.vlt_meaning.specs.Run.{Setup}
use Rattle.vlt_host_meaning.specs.Calls.{Argument}
use Rattle.vlt_host_meaning.specs.Permitted.{is_permitted}
use Rattle.vlt_host_meaning.specs.OneCall.{body_does, spent}
use Rattle.vlt_host_meaning.specs.PastCalls.{IsLeftByCalls}

abbrev pub IsANumber : Option Value → Type 0
IsANumber v = (z : ℤ) × (v ≡ Some (one (number z)))

-- no value of another type is given to a host
abbrev pub IsResult : Option Ty → Option Value → Type 0
IsResult None v = v ≡ None
IsResult (Some int) v = IsANumber v
IsResult (Some bool) v = IsANumber v
IsResult (Some (tracked k t args)) v = (n : ℕ) × (v ≡ Some (one (reference n)))
IsResult (Some ty) v = ⊥

-- of objects that calls left, a permitted call whose body leaves the function gives a value of its result's type
abbrev pub GivesResults : Program → Type 0
GivesResults p =
    (r : Setup) (w : World) (i : ℕ) (f : Func) (args : List Argument) → r.program ≡ p →
    IsLeftByCalls r w.objects → slice_get p.fns i ≡ Some f → is_permitted p i f args w.objects ≡ true →
    (value : Option Value) (kept : List ℕ) (v : World) → body_does r f args (spent w) ≡ leaves value kept v →
    IsResult f.result value
