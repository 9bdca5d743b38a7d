-- What is known of a call that a run of an accepted program comes to.
use Rattle.std.specs.Prelude.{◌≡◌, true, Some, slice_get}
use Rattle.vlt_core.specs.Core.{call, Form, Func, Program}
use Rattle.vlt_meaning.specs.World.{World, Frame}
use Rattle.vlt_meaning.specs.Run.{Setup}
use Rattle.vlt_meaning_laws.specs.Machine.Machine.{Conf}
use Rattle.vlt_meaning_laws.specs.Machine.Reached.{IsReached, IsBefore}
use Rattle.vlt_interp.specs.Calls.Called.{IsExternalCall, KnowsCall}

-- an external's call lists the keys that it needs
abbrev pub ListsCall : Program → Form → Type 0
ListsCall p (call g target keys args) =
    (callee : Func) → slice_get p.fns g ≡ Some callee → callee.external ≡ true → IsExternalCall p callee keys
ListsCall p form = Unit {0}

-- what is known of a statement that comes next, if it is a call
pub record IsKnownCall (p : Program) (f : Func) (form : Form) (frame : Frame) (w : World) : Type 0 where
  pub lists : ListsCall p form
  pub known : KnowsCall p form f frame w

-- it is known of what comes next there
abbrev pub KnowsNext : Program → Conf → Type 0
KnowsNext p c = (form : Form) (frame : Frame) (w : World) → IsBefore c form frame w → IsKnownCall p c.func form frame w

-- and wherever a run comes to
abbrev pub KnowsItsCalls : Program → Type 0
KnowsItsCalls p = (r : Setup) (c : Conf) → r.program ≡ p → IsReached r c → KnowsNext p c
