-- The owning fields of an object, whose values go into variables.
use Rattle.std.specs.Prelude.{◌≡◌, ℕ, true, List, Some, Ok, length, drop, slice_get}
use Rattle.std.specs.List.{flat_map}
use Rattle.vlt_core.specs.Core.{FieldDecl, Func, Program, Simple}
use Rattle.vlt_meaning.specs.World.{Value, objects_in, Object, World, Frame, is_fault}
use Rattle.vlt_meaning.specs.Step.{with_var}
use Rattle.vlt_meaning.specs.Operands.{owning_cells}
use Rattle.vlt_meaning_laws.specs.Machine.Got.{Got, got, stopped, filled_got}
use Rattle.vlt_heap.specs.declared.heap.Heap.{Heap}
use Rattle.vlt_heap.specs.Items.{Items, IsMadeAt}
use Rattle.vlt_heap.specs.Shown.{Holds}
use Rattle.vlt_acts.specs.declared.values.values.Values.{Values}
use Rattle.vlt_acts.specs.Values.Shown.{ShowObjects, ShowsFrame}
use Rattle.vlt_acts.specs.Acts.Acts.{IsRight}
use Rattle.vlt_acts.specs.Objects.Owned.{IsHeldAt, taken_out}

-- an object that a function holds, in the objects that a heap shows, and a frame
pub record Holder (heap : Heap) (values : Values) (number place : ℕ) : Type 0 where
  pub items : Items
  pub objects : List Object
  pub frame : Frame
  pub holds : Holds heap items
  pub shown : ShowObjects items values.width objects
  pub fits : ShowsFrame items values frame
  pub held : IsHeldAt items objects number place

-- the values of its owning fields, from one on
abbrev pub owned_from : List FieldDecl → (i : ℕ) → Object → List Value
owned_from ds i o = owning_cells ds (drop i o.cells)

-- their objects can leave it
pub record CanTake (heap : Heap) (values : Values) (number place : ℕ) (ds : List FieldDecl) (i : ℕ) (count : ℕ) : Type 0 where
  pub holder : Holder heap values number place
  pub few : length (owned_from ds i holder.held.object) ≡ count
  pub after : List Object
  pub is : taken_out number (flat_map objects_in (owned_from ds i holder.held.object)) holder.objects ≡ Ok after

-- the objects of one of its cells can leave it
pub record CanTakeOne (heap : Heap) (values : Values) (number place i : ℕ) : Type 0 where
  pub holder : Holder heap values number place
  pub value : Value
  pub at : slice_get holder.held.object.cells i ≡ Some value
  pub after : List Object
  pub is : taken_out number (objects_in value) holder.objects ≡ Ok after

-- what is shown once the variables are filled
pub record Taken (before : Items) (heap : Heap) (values : Values) (frame : Frame) (objects : List Object) : Type 0 where
  pub items : Items
  pub holds : Holds heap items
  pub shown : ShowObjects items values.width objects
  pub fits : ShowsFrame items values frame
  pub kept : (c n : ℕ) → IsMadeAt before c n → IsMadeAt items c n

-- the value of a cell goes into a variable
abbrev pub TakesOne : (number place i v : ℕ) → (old : Heap) → Values → (new : Heap) → Values → Type 0
TakesOne number place i v old values new after =
    (h : Holder old values number place) (a : Value) (objects : List Object) →
    slice_get h.held.object.cells i ≡ Some a → taken_out number (objects_in a) h.objects ≡ Ok objects →
    Taken h.items new after (with_var v (Some a) h.frame) objects

abbrev pub IsTaken : (before : Items) → Heap → Values → List Object → Got (Unit {0}) → Type 0
IsTaken before heap values after (got u frame w) = Taken before heap values frame after
IsTaken before heap values after (stopped o w) = is_fault o ≡ true

-- the values of the owning fields go into the variables, and their objects out of the object
abbrev pub TakesAll : (number place : ℕ) → List FieldDecl → (i : ℕ) → (vs : List ℕ) → (old : Heap) → Values → (new : Heap) → Values → Type 0
TakesAll number place ds i vs old values new after =
    (h : Holder old values number place) (f : Func) (w : World) (objects : List Object) →
    taken_out number (flat_map objects_in (owned_from ds i h.held.object)) h.objects ≡ Ok objects →
    IsTaken h.items new after objects (filled_got f vs (owned_from ds i h.held.object) h.frame w)

-- the statement of this function of the program doesn't go wrong
pub record IsRightIn (p : Program) (f : Func) (heap : Heap) (values : Values) (s : Simple) : Type 0 where
  pub right : IsRight heap values s
  pub program : right.seen.program ≡ p
  pub func : right.seen.func ≡ f
