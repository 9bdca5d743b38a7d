-- Frames in the table: the running one, and below it those that wait for a call's return.
use Rattle.std.specs.Prelude.{◌≡◌, ◌<◌, ◌+◌, ◌*◌, ℕ, Bool, List, [], ◌∷◌, length, map, Some, IfSome, slice_get}
use Rattle.std.specs.Option.{option_map}
use Rattle.vlt_core.specs.Core.{Entry, Func}
use Rattle.vlt_core.specs.Lookups.{is_new}
use Rattle.vlt_core.specs.View.{func_of, keys_of}
use Rattle.vlt_heap.specs.Items.{Items}
use Rattle.vlt_meaning.specs.World.{Frame}
use Rattle.vlt_meaning.specs.Calls.{entries_after}
use Rattle.vlt_meaning_laws.specs.Machine.Machine.{Caller}
use Rattle.vlt_acts.specs.declared.values.values.Values.{Values}
use Rattle.vlt_acts.specs.Values.Shown.{with_frame, ShowsFrame}
use Rattle.vlt_acts.specs.declared.frames.waiting.Waiting.{Waiting}

-- ---- functions that tables don't tell apart

-- what all instances of a function keep of an entry: its key, and whether that is for a new object
abbrev pub kept_key : Entry → ℕ × Bool
kept_key e = (e.key, is_new e)

-- The functions are one but for their clauses, and after both the same keys are held. So is each instance of a function to it.
pub record IsLike (f g : Func) : Type 0 where
  pub is : record f { clause = g.clause } ≡ g
  pub kept : map kept_key (entries_after f) ≡ map kept_key (entries_after g)

-- ---- frames

-- where the slots of a frame end that begins there
abbrev pub frame_end : (width base : ℕ) → Func → ℕ
frame_end w b f = b + length f.vars * w + length f.keys

-- a frame of the function runs, and so many slots stand after it
pub record IsRunning (values : Values) (f : Func) (following : ℕ) : Type 0 where
  pub vars : values.vars ≡ length f.vars
  pub long : length values.slots.items ≡ frame_end values.width values.base f + following

-- only keys of the function name objects
abbrev pub NamesOwn : Func → Frame → Type 0
NamesOwn f frame = (k n : ℕ) → frame.keys k ≡ Some n → k < length f.keys

-- a frame of the function is shown by the slots from a position on
pub record Stands (items : Items) (values : Values) (f : Func) (base : ℕ) (frame : Frame) : Type 0 where
  pub shown : ShowsFrame items (with_frame values base (length f.vars)) frame
  pub names : NamesOwn f frame

-- ---- callers

abbrev pub caller_of : Waiting → Func → Frame → Caller
caller_of w f frame = record {
  func = f;
  frame = frame;
  target = option_map (λ v. v.0) w.target;
  keys = keys_of w.keys.now;
}

-- The frame of a caller ends where the next one begins. The call names variables and keys of the caller.
pub record IsBelow (w : Waiting) (width end : ℕ) : Type 0 where
  pub vars : w.vars ≡ length (func_of w.func.now).vars
  pub ends : frame_end width w.base (func_of w.func.now) ≡ end
  pub target : IfSome w.target (λ v. v.0 < w.vars)
  pub keys : (i k : ℕ) → slice_get (keys_of w.keys.now) i ≡ Some k → k < length (func_of w.func.now).keys

-- a caller waits, whose frame ends there; it runs an instance of the function that is kept of it
pub record Waits (items : Items) (values : Values) (w : Waiting) (end : ℕ) (k : Caller) : Type 0 where
  pub func : IsLike (func_of w.func.now) k.func
  pub is : caller_of w k.func k.frame ≡ k
  pub below : IsBelow w values.width end
  pub stands : Stands items values k.func w.base k.frame

-- callers wait, the last one first, the frame of each below the one that it called
abbrev pub AllWait : Items → Values → (end : ℕ) → List Waiting → List Caller → Type 0
AllWait items values end [] [] = Unit {0}
AllWait items values end (w ∷ ws) (k ∷ ks) = Waits items values w end k × AllWait items values w.base ws ks
AllWait items values end _ _ = ⊥
