-- What stands in the table where a function is left, and where its caller goes on.
use Rattle.std.specs.Prelude.{◌≡◌, ◌≤◌, ℕ, ◌+◌, ◌-◌, true, false, if◌then◌else◌, List, [], ◌∷◌, length, Option, Some, None, Result, Ok, Err, slice_get}
use Rattle.vlt_ops.specs.declared.TrapKind.{TrapKind}
use Rattle.vlt_core.specs.Core.{Operand, Entry, Func}
use Rattle.vlt_core.specs.Lookups.{is_new}
use Rattle.vlt_heap.specs.declared.slots.Slot.{Slot}
use Rattle.vlt_heap.specs.declared.heap.Heap.{Heap}
use Rattle.vlt_heap.specs.Items.{Items}
use Rattle.vlt_meaning.specs.World.{reference, Value, Object, is_gone, is_out, above, World, Frame, trap, is_fault}
use Rattle.vlt_meaning.specs.Calls.{entries_after, back_in, with_returned}
use Rattle.vlt_meaning.specs.Step.{Step, goes, jumps, leaves, ends}
use Rattle.vlt_meaning.specs.Run.{Setup, left_function}
use Rattle.vlt_meaning_laws.specs.Machine.Machine.{Caller}
use Rattle.vlt_acts.specs.declared.values.values.Values.{Values}
use Rattle.vlt_acts.specs.Values.Parts.{HasPartAt, HaveValue}
use Rattle.vlt_acts.specs.Values.Shown.{ShowObjects, Seen, key_at}
use Rattle.vlt_acts.specs.Values.Pushed.{Shows}
use Rattle.vlt_acts.specs.declared.frames.waiting.Waiting.{Waiting}
use Rattle.vlt_acts.specs.Frames.Frames.{NamesOwn, Waits}

-- ---- where a function is left

-- the value that is returned stands at the end
abbrev pub value_at : Values → ℕ
value_at values = length values.slots.items - values.width

-- The object of an entry is in its key's slot. That of a new key is in the first slot of the value.
abbrev pub kept_at : (keys value : ℕ) → Entry → ℕ
kept_at keys value e = if is_new e then value else keys + e.key

-- it stands there, not below `base`
pub record IsKeptAt (items : Items) (slots : List Slot) (base at n : ℕ) : Type 0 where
  pub following : base ≤ at
  pub part : HasPartAt items slots at (reference n)

-- the object of each entry
abbrev pub AreKept : Items → List Slot → (base keys value : ℕ) → List Entry → List ℕ → Type 0
AreKept items slots base keys value [] [] = Unit {0}
AreKept items slots base keys value (e ∷ es) (n ∷ ns) =
    IsKeptAt items slots base (kept_at keys value e) n × AreKept items slots base keys value es ns
AreKept items slots base keys value _ _ = ⊥

-- an object that isn't below another one, and not out
pub record IsRootAt (objects : List Object) (n : ℕ) : Type 0 where
  pub object : Object
  pub at : slice_get objects n ≡ Some object
  pub live : is_gone object.owner ≡ false
  pub root : above object.owner ≡ None
  pub here : is_out object.owner ≡ false

abbrev pub AreRoots : List Object → List ℕ → Type 0
AreRoots objects [] = Unit {0}
AreRoots objects (n ∷ ns) = IsRootAt objects n × AreRoots objects ns

-- the value has its slots after the frame
pub record IsGiven (items : Items) (values : Values) (v : Value) : Type 0 where
  pub following : values.base + values.width ≤ length values.slots.items
  pub value : HaveValue items values.slots.items (value_at values) values.width v

-- the function was left with a value, or without one, and with these objects
pub record HasLeft (items : Items) (values : Values) (g : Func) (a : Option Value) (kept : List ℕ) (w : World) : Type 0 where
  pub objects : ShowObjects items values.width w.objects
  pub value : (v : Value) → a ≡ Some v → IsGiven items values v
  pub slots : AreKept items values.slots.items values.base (key_at values 0) (value_at values) (entries_after g) kept
  pub roots : AreRoots w.objects kept

-- the function is left, or the run traps, or goes wrong
abbrev pub IsLeft : Items → Values → Func → Result (Unit {0}) TrapKind → Step → Type 0
IsLeft items values g r (leaves a kept w) = (r ≡ Ok tt) × HasLeft items values g a kept w
IsLeft items values g r (ends (trap t) w) = r ≡ Err t
IsLeft items values g r (ends o w) = is_fault o ≡ true
IsLeft items values g r (goes frame w) = ⊥
IsLeft items values g r (jumps c frame w) = ⊥

-- whatever frame and objects the table showed
abbrev pub Gives : Func → Option Operand → (h : Heap) → (old new : Values) → Result (Unit {0}) TrapKind → Type 0
Gives g o h old new r =
    (c : Seen h old) (w : World) (s : Setup) → c.func ≡ g → s.program ≡ c.program → w.objects ≡ c.objects →
    IsLeft c.items new g r (with_returned s.program g o c.frame w (λ a frame w. left_function s g o a frame w))

-- ---- where the caller goes on

pub record HasReturned (items : Items) (values : Values) (f : Func) (frame : Frame) (w : World) : Type 0 where
  pub shows : Shows items values frame w.objects
  pub names : NamesOwn f frame

-- the caller goes on, or the run goes wrong
abbrev pub IsBack : Items → Values → Func → Step → Type 0
IsBack items values f (goes frame w) = HasReturned items values f frame w
IsBack items values f (ends o w) = is_fault o ≡ true
IsBack items values f (jumps c frame w) = ⊥
IsBack items values f (leaves a kept w) = ⊥

-- from a function that was left to a caller that waits
abbrev pub Returns : Func → Waiting → (old new : Values) → Type 0
Returns g w old new =
    (items : Items) (k : Caller) (a : Option Value) (kept : List ℕ) (v : World) →
    HasLeft items old g a kept v → Waits items old w old.base k →
    IsBack items new k.func (back_in k.func k.target k.keys g k.frame (leaves a kept v))
