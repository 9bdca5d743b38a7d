-- Where the body of a function begins that a host calls, and what is known of the calls that it comes to.
use Rattle.std.specs.Prelude.{◌≡◌, ℕ, true, List, map, Some, slice_get}
use Rattle.vlt_core.specs.Core.{Func, Program}
use Rattle.vlt_meaning.specs.World.{World}
use Rattle.vlt_meaning.specs.Calls.{callee_frame}
use Rattle.vlt_meaning.specs.Run.{Setup}
use Rattle.vlt_meaning_laws.specs.Machine.Machine.{Conf, moves, first_conf}
use Rattle.vlt_interp.specs.Calls.Known.{KnowsNext}
use Rattle.vlt_host_meaning.specs.Calls.{Argument, value_of_argument}
use Rattle.vlt_host_meaning.specs.HostFrame.{host_frame}
use Rattle.vlt_host_meaning.specs.Permitted.{host_keys, is_permitted}
use Rattle.vlt_host_meaning.specs.OneCall.{host_instance, world_inside, spent}
use Rattle.vlt_host_meaning.specs.PastCalls.{IsLeftByCalls}

-- where the body of an instance begins that a host calls
abbrev pub begun : Func → List Argument → World → Conf
begun f args w =
    first_conf f
    (callee_frame f (host_keys f args w.objects) (map value_of_argument args) (host_frame w.objects))
    (world_inside f args (spent w))

-- where a host's call of a function begins
abbrev pub begun_by_host : Program → Func → List Argument → World → Conf
begun_by_host p f args w = begun (host_instance p f args w.objects) args w

-- of objects that calls left, of the calls that a permitted call comes to is known what a machine relies on
abbrev pub KnowsStartedCalls : Program → Type 0
KnowsStartedCalls p =
    (r : Setup) (w : World) (i : ℕ) (f : Func) (args : List Argument) → r.program ≡ p →
    IsLeftByCalls r w.objects → slice_get p.fns i ≡ Some f → is_permitted p i f args w.objects ≡ true →
    (count : ℕ) → KnowsNext p (moves r count (begun_by_host p f args w))
