-- A new object, and how a statement that makes one ends.
use Rattle.std.specs.Prelude.{◌≡◌, ℕ, false, true, List, [], ◌∷◌, ◌++◌, length, Some, Result, Ok, Err}
use Rattle.std.specs.List.{flat_map}
use Rattle.vlt_base.specs.declared.HeapEnd.{HeapEnd}
use Rattle.vlt_core.specs.Core.{Simple, Func}
use Rattle.vlt_core.specs.Lookups.{Reference}
use Rattle.vlt_meaning.specs.World.{Value, one, reference, objects_in, Object, World, Frame, trap, heap_end, is_fault, is_full}
use Rattle.vlt_meaning.specs.Step.{Step, goes, jumps, leaves, ends, with_var, with_key}
use Rattle.vlt_meaning.specs.Run.{new_object, does_simple}
use Rattle.vlt_heap.specs.declared.slots.Slot.{Slot}
use Rattle.vlt_heap.specs.declared.heap.Heap.{Heap}
use Rattle.vlt_heap.specs.Items.{Items}
use Rattle.vlt_heap.specs.Shown.{Holds, heap_of}
use Rattle.vlt_acts.specs.declared.values.values.Values.{Values}
use Rattle.vlt_acts.specs.Values.Parts.{IsObject}
use Rattle.vlt_acts.specs.Values.Shown.{ShowObjects, ShowsFrame, Seen}
use Rattle.vlt_acts.specs.Values.Pushed.{HaveValues}
use Rattle.vlt_acts.specs.Acts.Acts.{setup, Shows, IsRight}
use Rattle.vlt_acts.specs.declared.objects.halt.Halt.{Halt}
use Rattle.vlt_acts.specs.declared.objects.halt.Halt.TheVariants as h
use Rattle.vlt_acts.specs.Objects.Owned.{ShowsAll, put_in}

-- ---- the object alone

-- objects that a heap shows, and values that the table has from a position on
pub record SeesCells (heap : Heap) (values : Values) (from : ℕ) : Type 0 where
  pub items : Items
  pub objects : List Object
  pub cells : List Value
  pub holds : Holds heap items
  pub shown : ShowObjects items values.width objects
  pub have : HaveValues items values.slots.items from values.width cells

abbrev pub objects_with : Reference → List Value → Frame → List Object → List Object
objects_with q cells frame objects = objects ++ new_object q cells frame ∷ []

-- where there is room, the objects of the values can go into the new one
pub record CanMake (type from count : ℕ) (values : Values) (heap : Heap) : Type 0 where
  pub sees : SeesCells heap values from
  pub counted : length sees.cells ≡ count
  pub frame : Frame
  pub ref : Reference
  pub typed : ref.type ≡ type
  pub right : is_full (heap_of heap) sees.objects ≡ false → (after : List Object) ×
      (put_in (length sees.objects) (flat_map objects_in sees.cells) (objects_with ref sees.cells frame sees.objects) ≡ Ok after)

-- the new object is there, with the objects of its values in it; the slot refers to it
pub record ShowsNew (before : Items) (heap : Heap) (width : ℕ) (after : List Object) (n : ℕ) (a : Slot) : Type 0 where
  pub shows : ShowsAll before heap width after
  pub object : IsObject shows.items n a

pub record HasNew (heap : Heap) (values : Values) (from : ℕ) (s : SeesCells heap values from) (frame : Frame) (q : Reference) (new : Heap) (a : Slot) : Type 0 where
  pub room : is_full (heap_of heap) s.objects ≡ false
  pub shows : (after : List Object) →
      put_in (length s.objects) (flat_map objects_in s.cells) (objects_with q s.cells frame s.objects) ≡ Ok after →
      ShowsNew s.items new values.width after (length s.objects) a

-- it is made, or there is no room
abbrev pub IsMadeOrFull : (heap : Heap) (values : Values) (from : ℕ) → SeesCells heap values from → Frame → Reference → (new : Heap) → Result Slot HeapEnd → Type 0
IsMadeOrFull heap values from s frame q new (Ok a) = HasNew heap values from s frame q new a
IsMadeOrFull heap values from s frame q new (Err e) = (is_full (heap_of heap) s.objects ≡ true) × (new ≡ heap)

abbrev pub MakesNew : (type from count : ℕ) → Values → (old new : Heap) → Result Slot HeapEnd → Type 0
MakesNew t from count values old new r =
    (s : SeesCells old values from) (frame : Frame) (q : Reference) → length s.cells ≡ count → q.type ≡ t →
    IsMadeOrFull old values from s frame q new r

-- ---- its name

-- a key names the object of a slot, and a variable refers to it
abbrev pub NamesIt : (x k : ℕ) → Slot → (old new : Values) → Type 0
NamesIt x k a old new =
    (items : Items) (frame : Frame) (n : ℕ) → ShowsFrame items old frame → IsObject items n a →
    ShowsFrame items new (with_var x (Some (one (reference n))) (with_key k n frame))

-- ---- the statement

pub record HasCome (before : Items) (heap : Heap) (values : Values) (r : Result (Unit {0}) Halt) (frame : Frame) (w : World) : Type 0 where
  pub is : r ≡ Ok tt
  pub shows : Shows before heap values frame w.objects

-- the statement is done, or the run traps, or no object can be made, or it goes wrong
abbrev pub Comes : (before : Items) → Heap → Values → Result (Unit {0}) Halt → Step → Type 0
Comes before heap values r (goes frame w) = HasCome before heap values r frame w
Comes before heap values r (ends (trap t) w) = r ≡ Err (h.Trap t)
Comes before heap values r (ends heap_end w) = r ≡ Err h.HeapEnd
Comes before heap values r (ends o w) = is_fault o ≡ true
Comes before heap values r (jumps c frame w) = ⊥
Comes before heap values r (leaves a kept w) = ⊥

-- in this function, whatever frame and objects the tables showed
abbrev pub ComesTo : Func → (old : Heap) → Values → (new : Heap) → Values → Result (Unit {0}) Halt → Simple → Type 0
ComesTo f old before new after r s =
    (c : Seen old before) (w : World) (d : ℕ) → c.func ≡ f → w.objects ≡ c.objects →
    Comes c.items new after r (does_simple (setup c.program (heap_of old) d) c.func s c.frame w)

-- the statement of this function doesn't go wrong, with as much room as the heap has
pub record IsRightHere (f : Func) (heap : Heap) (values : Values) (s : Simple) : Type 0 where
  pub right : IsRight heap values s
  pub budget : right.heap_budget ≡ heap_of heap
  pub func : right.seen.func ≡ f
