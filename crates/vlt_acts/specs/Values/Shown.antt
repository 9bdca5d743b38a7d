-- The frame and the objects that the tables show.
use Rattle.std.specs.Prelude.{◌≡◌, ◌≢◌, ◌⊎◌, ◌≤◌, ◌<◌, ◌+◌, ◌*◌, ℕ, ℤ, true, false, List, length, Option, None, Some, Result, Ok, Err, slice_get, vec_capacity}
use Rattle.vlt_ops.specs.declared.TrapKind.{TrapKind}
use Rattle.vlt_core.specs.Core.{Func, Program}
use Rattle.vlt_heap.specs.declared.slots.Slot.{Slot}
use Rattle.vlt_heap.specs.declared.heap.Heap.{Heap}
use Rattle.vlt_heap.specs.Items.{Item, Items}
use Rattle.vlt_heap.specs.Shown.{Holds}
use Rattle.vlt_meaning.specs.World.{Value, one, number, reference, Object, is_gone, is_out, above, Frame, trap, is_fault}
use Rattle.vlt_meaning.specs.Found.{Found, ◌>>=◌}
use Rattle.vlt_meaning.specs.Values.{number_in}
use Rattle.vlt_acts.specs.declared.values.values.Values.{Values}
use Rattle.vlt_acts.specs.Values.Parts.{head_of, HasPart, HasPartAt, HaveValue}

-- ---- objects

-- what the heap has of an object that isn't gone; each cell takes so many slots
pub record ShowsObject (items : Items) (width : ℕ) (x : Item) (o : Object) : Type 0 where
  pub live : is_gone o.owner ≡ false
  pub type : x.type ≡ o.type
  pub state : x.state ≡ o.state
  pub parent : x.parent ≡ above o.owner
  pub is_out : x.is_out ≡ is_out o.owner
  pub cells : (i : ℕ) (a : Value) → slice_get o.cells i ≡ Some a → HaveValue items x.slots (i * width) width a

abbrev pub ShowsIt : Items → (width : ℕ) → Option Item → Object → Type 0
ShowsIt items width None o = is_gone o.owner ≡ true
ShowsIt items width (Some x) o = ShowsObject items width x o

pub record ShowObjects (items : Items) (width : ℕ) (objects : List Object) : Type 0 where
  pub long : length items ≡ length objects
  pub each : (n : ℕ) (x : Option Item) (o : Object) → slice_get items n ≡ Some x → slice_get objects n ≡ Some o →
      ShowsIt items width x o

-- ---- the running frame

-- the variables of the running frame stand in the table
abbrev pub IsTable : Values → Type 0
IsTable values = values.base + values.vars * values.width ≤ length values.slots.items

-- the table with the frame that begins there, of so many variables, as the running one
abbrev pub with_frame : Values → (base vars : ℕ) → Values
with_frame values b n = record values { base = b; vars = n }

-- the position of a variable's first slot, and of a key's
abbrev pub var_at : Values → (v : ℕ) → ℕ
var_at values v = values.base + v * values.width

abbrev pub key_at : Values → (k : ℕ) → ℕ
key_at values k = values.base + values.vars * values.width + k

pub record HasVar (items : Items) (values : Values) (v : ℕ) (a : Value) : Type 0 where
  pub within : v < values.vars
  pub value : HaveValue items values.slots.items (var_at values v) values.width a

-- a variable without a value may have any slots, and so may a key that names nothing
pub record ShowsFrame (items : Items) (values : Values) (frame : Frame) : Type 0 where
  pub vars : (v : ℕ) (a : Value) → frame.vars v ≡ Some a → HasVar items values v a
  pub keys : (k n : ℕ) → frame.keys k ≡ Some n → HasPartAt items values.slots.items (key_at values k) (reference n)

-- a frame and objects that are shown, whatever the function
pub record Seen (heap : Heap) (values : Values) : Type 0 where
  pub program : Program
  pub func : Func
  pub frame : Frame
  pub objects : List Object
  pub items : Items
  pub holds : Holds heap items
  pub shown : ShowObjects items values.width objects
  pub fits : ShowsFrame items values frame

-- ---- changes

-- the slot j of a variable
abbrev pub IsVarSlot : Values → (v j : ℕ) → Slot → Type 0
IsVarSlot values v j a = slice_get values.slots.items (var_at values v + j) ≡ Some a

-- the slot j from a position on
abbrev pub IsSlotFrom : Values → (from j : ℕ) → Slot → Type 0
IsSlotFrom values k j a = slice_get values.slots.items (k + j) ≡ Some a

-- the front of the value j of those from a position on
abbrev pub IsFrontOf : Values → (from j : ℕ) → Slot → Type 0
IsFrontOf values k j a = slice_get values.slots.items (k + j * values.width) ≡ Some a

-- so many slots from a position on were set, and nothing else
pub record IsRowSet (to count : ℕ) (old new : Values) : Type 0 where
  pub outside : (k : ℕ) → (k < to) ⊎ (to + count ≤ k) → slice_get new.slots.items k ≡ slice_get old.slots.items k
  pub long : length new.slots.items ≡ length old.slots.items
  pub room : vec_capacity new.slots ≡ vec_capacity old.slots
  pub base : new.base ≡ old.base
  pub vars : new.vars ≡ old.vars
  pub width : new.width ≡ old.width

-- slots from one position on and from another are the same or have none in common
abbrev pub AreApart : (from to width : ℕ) → Type 0
AreApart a b w = (a ≡ b) ⊎ ((a + w ≤ b) ⊎ (b + w ≤ a))

-- all but the slots of one value are as they were
pub record IsKept (to : ℕ) (old new : Values) : Type 0 where
  pub outside : (k : ℕ) → (k < to) ⊎ (to + old.width ≤ k) → slice_get new.slots.items k ≡ slice_get old.slots.items k
  pub long : length new.slots.items ≡ length old.slots.items
  pub room : vec_capacity new.slots ≡ vec_capacity old.slots
  pub base : new.base ≡ old.base
  pub vars : new.vars ≡ old.vars
  pub width : new.width ≡ old.width

-- a slot is set, and nothing else
pub record IsSlotSet (k : ℕ) (a : Slot) (old new : Values) : Type 0 where
  pub here : slice_get new.slots.items k ≡ Some a
  pub others : (j : ℕ) → j ≢ k → slice_get new.slots.items j ≡ slice_get old.slots.items j
  pub long : length new.slots.items ≡ length old.slots.items
  pub room : vec_capacity new.slots ≡ vec_capacity old.slots
  pub base : new.base ≡ old.base
  pub vars : new.vars ≡ old.vars
  pub width : new.width ≡ old.width

abbrev pub IsKeySet : (k : ℕ) → Slot → (old new : Values) → Type 0
IsKeySet k a old new = IsSlotSet (key_at old k) a old new

-- there is more at the end
pub record IsGrown (old new : Values) : Type 0 where
  pub same : (k : ℕ) → k < length old.slots.items → slice_get new.slots.items k ≡ slice_get old.slots.items k
  pub base : new.base ≡ old.base
  pub vars : new.vars ≡ old.vars
  pub width : new.width ≡ old.width

-- only so many slots are left
pub record IsCut (n : ℕ) (old new : Values) : Type 0 where
  pub same : (k : ℕ) → k < n → slice_get new.slots.items k ≡ slice_get old.slots.items k
  pub long : length new.slots.items ≡ n
  pub base : new.base ≡ old.base
  pub vars : new.vars ≡ old.vars
  pub width : new.width ≡ old.width

-- a value can be written there: it is a variable's place, or it is after all variables
abbrev pub IsPlace : Values → ℕ → Type 0
IsPlace values to = ((v : ℕ) × (v < values.vars) × (to ≡ var_at values v)) ⊎ (values.base + values.vars * values.width ≤ to)

-- ---- what comes of expressions

-- the number, or the trap; where the run goes wrong, any answer will do
abbrev pub IsNumber : Result ℤ TrapKind → Found ℤ → Type 0
IsNumber r (Ok z) = r ≡ Ok z
IsNumber r (Err (trap t)) = r ≡ Err t
IsNumber r (Err o) = is_fault o ≡ true

-- the number of what is found
abbrev pub IsNumberOf : Result ℤ TrapKind → Found Value → Type 0
IsNumberOf r x = IsNumber r (x >>= number_in)

-- the slot has the front of the value, or the run goes wrong
abbrev pub IsFront : Items → Slot → Found Value → Type 0
IsFront items a (Ok v) = HasPart items (head_of v) a
IsFront items a (Err o) = is_fault o ≡ true

-- its slots have the value, or the run goes wrong
abbrev pub IsCopied : Items → Values → (to : ℕ) → Found Value → Type 0
IsCopied items values to (Ok a) = HaveValue items values.slots.items to values.width a
IsCopied items values to (Err o) = is_fault o ≡ true

pub record HasWritten (items : Items) (values : Values) (to : ℕ) (r : Result (Unit {0}) TrapKind) (a : Value) : Type 0 where
  pub is : r ≡ Ok tt
  pub value : HaveValue items values.slots.items to values.width a

-- the value was written, or the run traps, or goes wrong
abbrev pub IsWritten : Items → Values → (to : ℕ) → Result (Unit {0}) TrapKind → Found Value → Type 0
IsWritten items values to r (Ok a) = HasWritten items values to r a
IsWritten items values to r (Err (trap t)) = r ≡ Err t
IsWritten items values to r (Err o) = is_fault o ≡ true

-- only a number can come of it
abbrev pub IsNumeric : Found Value → Type 0
IsNumeric (Ok (one (number z))) = Unit {0}
IsNumeric (Ok a) = ⊥
IsNumeric (Err o) = Unit {0}
