-- What is known of the statements that a run comes to which began with a host's call.
use Rattle.std.specs.Prelude.{◌≡◌, ℕ, true, List, Some, slice_get}
use Rattle.vlt_core.specs.Core.{Form, Func, Program}
use Rattle.vlt_meaning.specs.World.{Frame, World}
use Rattle.vlt_meaning.specs.Run.{Setup}
use Rattle.vlt_meaning_laws.specs.Machine.Machine.{moves}
use Rattle.vlt_meaning_laws.specs.Machine.Reached.{IsBefore}
use Rattle.vlt_host_meaning.specs.Calls.{Argument}
use Rattle.vlt_host_meaning.specs.Permitted.{is_permitted}
use Rattle.vlt_host_meaning.specs.PastCalls.{IsLeftByCalls}
use Rattle.vlt_host.specs.Machine.Started.{begun_by_host}
use Rattle.vlt_run_laws.specs.Known.{IsKnown}

-- of objects that calls left, each statement that a permitted call comes to is known
abbrev pub KnowsStartedSteps : Program → Type 0
KnowsStartedSteps p =
    (r : Setup) (w : World) (i : ℕ) (f : Func) (args : List Argument) → r.program ≡ p →
    IsLeftByCalls r w.objects → slice_get p.fns i ≡ Some f → is_permitted p i f args w.objects ≡ true →
    (count : ℕ) (form : Form) (frame : Frame) (v : World) →
    IsBefore (moves r count (begun_by_host p f args w)) form frame v →
    IsKnown p (moves r count (begun_by_host p f args w)).func form frame v
