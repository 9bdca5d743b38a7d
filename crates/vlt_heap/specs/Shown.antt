-- The objects that a heap shows.
use Rattle.std.specs.Prelude.{◌≡◌, ◌≤◌, ◌<◌, ℕ, ◌+◌, ◌*◌, Bool, true, false, List, [], ◌∷◌, ◌++◌, map, length, Option, Some, None, Result, Ok, Err, option_map, slice_get, slice_set, vec_capacity}
use Rattle.vlt_base.specs.declared.HeapEnd.{HeapEnd}
use Rattle.vlt_rings.specs.Things as rings
use Rattle.vlt_rings.specs.Things.{Thing, Things, IsLiveAt, IsLoneAt, IsHungAt, budget_of, places_in}
use Rattle.vlt_rings.specs.Places.{IsSettled}
use Rattle.vlt_heap.specs.declared.slots.Slot.{Slot}
use Rattle.vlt_heap.specs.declared.slots.Obj.{Obj}
use Rattle.vlt_heap.specs.declared.slots.Kind.{Kind}
use Rattle.vlt_heap.specs.declared.heap.Heap.{Heap}
use Rattle.vlt_heap.specs.Items.{Item, Items, IsAt, is_full, new_item, IsMadeAt, with_item, with_slot, with_parent, with_out, without}

-- how many objects can be live at a time, and how many slots each has
abbrev pub heap_of : Heap → ℕ
heap_of h = budget_of h.places

abbrev pub slots_of : Heap → ℕ
slots_of h = h.width

-- ---- what is in a place

abbrev pub thing_of : Item → Thing
thing_of o = record { place = o.place; parent = o.parent }

abbrev pub things_of : Items → Things
things_of = map (option_map thing_of)

pub record IsKind (k : Kind) (o : Item) : Type 0 where
  pub type : k.type_id.0 ≡ o.type
  pub state : k.state ≡ o.state
  pub is_out : k.is_out ≡ o.is_out

-- so many slots of a table, from a position on
pub record IsRow (cells : List Slot) (from width : ℕ) (slots : List Slot) : Type 0 where
  pub long : length slots ≡ width
  pub each : (i : ℕ) → i < width → slice_get slots i ≡ slice_get cells (from + i)

pub record IsShown (h : Heap) (o : Item) : Type 0 where
  pub what : Kind
  pub at : slice_get h.kinds.items o.place ≡ Some what
  pub kind : IsKind what o
  pub row : IsRow h.cells.items (o.place * h.width) h.width o.slots

-- these are all objects that were made
pub record Holds (h : Heap) (items : Items) : Type 0 where
  pub things : rings.Holds h.places (things_of items)
  pub shown : (n : ℕ) (o : Item) → IsAt items n o → IsShown h o

-- the tables have room for all places
pub record IsSound (h : Heap) : Type 0 where
  pub settled : IsSettled h.places
  pub kinds : length h.kinds.items ≡ places_in h.places
  pub cells : length h.cells.items ≡ places_in h.places * h.width
  pub kinds_room : budget_of h.places ≤ vec_capacity h.kinds
  pub cells_room : budget_of h.places * h.width ≤ vec_capacity h.cells

-- no object was made yet, and there is room for all
pub record IsFresh (h : Heap) : Type 0 where
  pub places : rings.IsFresh h.places
  pub kinds : length h.kinds.items ≡ 0
  pub cells : length h.cells.items ≡ 0
  pub kinds_room : budget_of h.places ≤ vec_capacity h.kinds
  pub cells_room : budget_of h.places * h.width ≤ vec_capacity h.cells

-- ---- what calls ask

-- a live object is there
abbrev pub IsLive : Heap → Obj → Type 0
IsLive h o = IsLiveAt h.places o.0

-- it has a parent, or it has none
abbrev pub IsChild : Heap → Obj → Type 0
IsChild h o = IsHungAt h.places o.0

abbrev pub IsRoot : Heap → Obj → Type 0
IsRoot h o = IsLoneAt h.places o.0

-- it isn't out
abbrev pub IsHere : Heap → Obj → Type 0
IsHere h o = (k : Kind) → slice_get h.kinds.items o.0 ≡ Some k → k.is_out ≡ false

-- ---- what calls do

-- something holds of the object at a place, whatever objects the heap shows
abbrev pub ForObject : Heap → Obj → (Items → (number : ℕ) → Item → Type 0) → Type 0
ForObject h o P =
    (items : Items) (n : ℕ) (x : Item) → Holds h items → IsAt items n x → x.place ≡ o.0 → P items n x

-- the object is changed so, and nothing else
abbrev pub Changes : Obj → (Item → Item) → (old new : Heap) → Type 0
Changes o change old new = ForObject old o (λ items n x. Holds new (with_item n (change x) items))

-- a slot of it is set
abbrev pub Writes : Obj → (i : ℕ) → Slot → (old new : Heap) → Type 0
Writes o i a old new =
    ForObject old o (λ items n x. Holds new (with_item n (with_slot i a x) items))

-- so it is where the object of this number is at the place, and has so many slots
abbrev pub Stores : Obj → (number i : ℕ) → Slot → (old new : Heap) → Type 0
Stores o n i a old new =
    (items : Items) (x : Item) → Holds old items → IsAt items n x → x.place ≡ o.0 → i < slots_of old →
    Holds new (with_item n (with_slot i a x) items)

-- it is below the parent
abbrev pub Hangs : (child parent : Obj) → (old new : Heap) → Type 0
Hangs child parent old new =
    ForObject old child (λ items n x. (m : ℕ) (y : Item) → IsAt items m y → y.place ≡ parent.0 →
    Holds new (with_item n (with_parent (Some m) x) items))

-- it is gone, and all below it
abbrev pub Releases : Obj → (old new : Heap) → Type 0
Releases o old new = ForObject old o (λ items n x. Holds new (without n items))

-- as many objects can be live, and each has as many slots
pub record IsSameSize (old new : Heap) : Type 0 where
  pub heap : heap_of new ≡ heap_of old
  pub slots : slots_of new ≡ slots_of old

-- the new object
pub record IsNew (items : Items) (o : Obj) (type : ℕ) (old new : Heap) : Type 0 where
  pub room : is_full (heap_of old) items ≡ false
  pub holds : Holds new (items ++ Some (new_item (slots_of old) type o.0) ∷ [])

abbrev pub IsNewOrFull : Items → Result Obj HeapEnd → (type : ℕ) → (old new : Heap) → Type 0
IsNewOrFull items (Ok o) t old new = IsNew items o t old new
IsNewOrFull items (Err e) t old new = is_full (heap_of old) items ≡ true

-- the object of this number is at the place still, or it is gone
abbrev pub IsThereOrGone : Bool → Items → (number place : ℕ) → Type 0
IsThereOrGone true items n c = (o : Item) × IsAt items n o × (o.place ≡ c)
IsThereOrGone false items n c = slice_get items n ≡ Some None

-- a new object is made, or there is no room
abbrev pub Makes : Result Obj HeapEnd → (type : ℕ) → (old new : Heap) → Type 0
Makes result t old new = (items : Items) → Holds old items → IsNewOrFull items result t old new

-- an object that was made at the place is there or gone
abbrev pub Tells : Bool → Obj → (number : ℕ) → Heap → Type 0
Tells b o n h = (items : Items) → Holds h items → IsMadeAt items o.0 n → IsThereOrGone b items n o.0

-- a slot of the object of a number that was made at the place
pub record IsSlotOf (items : Items) (n i : ℕ) (a : Slot) : Type 0 where
  pub item : Item
  pub at : IsAt items n item
  pub slot : slice_get item.slots i ≡ Some a

abbrev pub IsSlotOrNone : Option Slot → Items → (n i : ℕ) → Type 0
IsSlotOrNone (Some a) items n i = IsSlotOf items n i a
IsSlotOrNone None items n i = (o : Item) → IsAt items n o → slice_get o.slots i ≡ None

abbrev pub Finds : Option Slot → Obj → (number i : ℕ) → Heap → Type 0
Finds r o n i h = (items : Items) → Holds h items → IsMadeAt items o.0 n → IsSlotOrNone r items n i

-- the parent, which is live, is at the place
pub record IsParentAt (items : Items) (o : Item) (c : ℕ) : Type 0 where
  pub number : ℕ
  pub is : o.parent ≡ Some number
  pub parent : Item
  pub at : IsAt items number parent
  pub place : parent.place ≡ c

-- an object that is out came back; else no object of this number is out at the place
abbrev pub CameBack : Bool → Items → (number place : ℕ) → (old new : Heap) → Type 0
CameBack true items n c old new =
    (o : Item) × IsAt items n o × (o.place ≡ c) × (o.is_out ≡ true) × Holds new (with_item n (with_out false o) items)
CameBack false items n c old new =
    ((o : Item) → IsAt items n o → o.place ≡ c → o.is_out ≡ false) × (new ≡ old)

-- whether an object comes back
abbrev pub TakesBack : Bool → Obj → (number : ℕ) → (old new : Heap) → Type 0
TakesBack b o n old new = (items : Items) → Holds old items → CameBack b items n o.0 old new

-- ---- how calls are proved

-- what the object in one place is was set, and nothing else
pub record IsSetKind (c : ℕ) (k : Kind) (old new : Heap) : Type 0 where
  pub kinds : new.kinds.items ≡ slice_set old.kinds.items c k
  pub places : new.places ≡ old.places
  pub cells : new.cells ≡ old.cells
  pub width : new.width ≡ old.width
