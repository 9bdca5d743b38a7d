-- What a run comes to on its way, and the keys that its calls are given.
use Rattle.std.specs.Prelude.{◌≡◌, ℕ, ℤ, ◌<◌, false, List, ◌∷◌, length, Option, Some, slice_get}
use Rattle.vlt_core.specs.Core.{next, call, Operand, Form, Stmts, Func, Program}
use Rattle.vlt_meaning.specs.World.{World, Frame}
use Rattle.vlt_meaning.specs.Step.{goes}
use Rattle.vlt_meaning.specs.Calls.{is_new_key}
use Rattle.vlt_meaning.specs.Run.{Setup, first_frame, start}
use Rattle.vlt_meaning_laws.specs.Machine.Machine.{Task, list, Conf, moves, first_conf}

-- a run comes to this configuration
pub record IsReached (r : Setup) (c : Conf) : Type 0 where
  pub main : Func
  pub is_main : slice_get r.program.fns r.program.main ≡ Some main
  pub fuel : ℕ
  pub input : List ℤ
  pub answers : List (List ℤ)
  pub count : ℕ
  pub is : moves r count (first_conf main (first_frame 1) (start fuel input answers)) ≡ c

-- a statement comes next
pub record IsBefore (c : Conf) (form : Form) (frame : Frame) (w : World) : Type 0 where
  pub place : ℕ
  pub rest : Stmts
  pub tasks : List Task
  pub are : c.tasks ≡ list (next place form rest) ∷ tasks
  pub step : c.step ≡ goes frame w

-- a call comes next
pub record IsAtCall (p : Program) (c : Conf) (g : Func) (keys : List ℕ) (frame : Frame) : Type 0 where
  pub position : ℕ
  pub target : Option ℕ
  pub args : List Operand
  pub world : World
  pub callee : slice_get p.fns position ≡ Some g
  pub before : IsBefore c (call position target keys args) frame world

-- the caller's key for a key of the head names an object
pub record NamesKey (keys : List ℕ) (frame : Frame) (j : ℕ) : Type 0 where
  pub key : ℕ
  pub is : slice_get keys j ≡ Some key
  pub number : ℕ
  pub named : frame.keys key ≡ Some number

-- so do all keys that a call lists, that of a new object aside
abbrev pub NamesKeys : Func → (keys : List ℕ) → Frame → Type 0
NamesKeys g keys frame = (j : ℕ) → j < length keys → is_new_key g j ≡ false → NamesKey keys frame j

-- where a function is called, external or not, the keys that the call lists name objects
abbrev pub NamesItsKeys : Program → Type 0
NamesItsKeys p =
    (r : Setup) (c : Conf) (g : Func) (keys : List ℕ) (frame : Frame) → r.program ≡ p → IsReached r c →
    IsAtCall p c g keys frame → NamesKeys g keys frame
