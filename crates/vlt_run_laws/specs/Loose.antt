-- What values own that a statement moves.
use Rattle.std.specs.Prelude.{◌≡◌, ℕ, IsTrue, List, [], ◌∷◌, Some, slice_get}
use Rattle.vlt_core.specs.Core.{States, Operand, move, Simple, make, own, build, drop, unpack, swap, Form, simple, call, switch, return, Func, Program}
use Rattle.vlt_core.specs.Lookups.{owning_states}
use Rattle.vlt_meaning.specs.World.{Value, objects_in, loose, Object, World, Frame}
use Rattle.vlt_meaning.specs.Run.{Setup}
use Rattle.vlt_meaning_laws.specs.Machine.Machine.{Conf}
use Rattle.vlt_meaning_laws.specs.Machine.Reached.{IsReached, IsBefore}
use Rattle.vlt_sound_worlds.specs.Members.{In}

-- the variables that operands move
abbrev pub moved_by_operands : List Operand → List ℕ
moved_by_operands [] = []
moved_by_operands (move v ∷ rest) = v ∷ moved_by_operands rest
moved_by_operands (other ∷ rest) = moved_by_operands rest

abbrev pub moved_by_simple : Simple → List ℕ
moved_by_simple (make x args) = moved_by_operands args
moved_by_simple (own v value) = moved_by_operands (value ∷ [])
moved_by_simple (build v case args) = moved_by_operands args
moved_by_simple (drop v) = v ∷ []
moved_by_simple (unpack x v) = v ∷ []
moved_by_simple (swap x i v) = v ∷ []
moved_by_simple other = []

-- The variables whose values a statement moves: those that its operands move, and the one that it drops,
-- unpacks, swaps or switches on.
abbrev pub moved_vars : Form → List ℕ
moved_vars (simple s) = moved_by_simple s
moved_vars (call f target keys args) = moved_by_operands args
moved_vars (switch v arms end) = v ∷ []
moved_vars (return (Some value)) = moved_by_operands (value ∷ [])
moved_vars other = []

-- the object is loose, and in a state that the variable's type allows, where that says any
pub record IsLooseFor (f : Func) (v : ℕ) (objects : List Object) (n : ℕ) : Type 0 where
  pub object : Object
  pub at : slice_get objects n ≡ Some object
  pub owner : object.owner ≡ loose
  pub state : (states : States) → owning_states f v ≡ Some states → IsTrue (states object.state)

-- the variable has a value, and each object that the value owns is loose
pub record HasLooseValue (f : Func) (v : ℕ) (frame : Frame) (objects : List Object) : Type 0 where
  pub value : Value
  pub has : frame.vars v ≡ Some value
  pub loose : (n : ℕ) → In n (objects_in value) → IsLooseFor f v objects n

-- so is each variable whose value a statement moves, where a run comes to the statement
abbrev pub MovesLooseObjects : Program → Type 0
MovesLooseObjects p =
    (r : Setup) (c : Conf) (form : Form) (frame : Frame) (w : World) (v : ℕ) → r.program ≡ p →
    IsReached r c → IsBefore c form frame w → In v (moved_vars form) →
    HasLooseValue c.func v frame w.objects
