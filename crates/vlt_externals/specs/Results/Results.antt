-- What a call gives: a number, a new object, or a value of a variant. The definition's parts, as what is found of objects.
use Rattle.std.specs.Prelude.{◌≡◌, ◌⊎◌, ◌≤◌, ◌<◌, ℕ, ◌+◌, ℤ, true, false, if◌then◌else◌, List, [], ◌∷◌, ◌++◌, map, filter, length, Option, None, Some, Result, Ok, Err, slice_get}
use Rattle.std.specs.Option.{option_map}
use Rattle.std.specs.Result.{is_ok}
use Rattle.vlt_base.specs.declared.HeapEnd.{HeapEnd}
use Rattle.vlt_core.specs.Core.{Ty, CaseKey, CaseDecl, Entry, Func, Program}
use Rattle.vlt_core.specs.Lookups.{is_held_after, after_set, VariantOf, variant_in, case_keys, case_at}
use Rattle.vlt_meaning.specs.World.{Part, number, reference, owned, Value, one, of_case, Owner, held, loose, is_gone, is_out, above, Object, is_full, Frame, heap_end, fault, missing, is_fault}
use Rattle.vlt_meaning.specs.Found.{Found, ◌>>=◌, or_fault}
use Rattle.vlt_meaning.specs.Step.{with_key}
use Rattle.vlt_meaning.specs.Calls.{entries_after, Binding, binding}
use Rattle.vlt_meaning.specs.HostAnswers.{Piece, plain, new_in, Result as Given, nothing, piece, case_with, Answer, each, state_in, piece_of, key_state, variant_read, result_read}
use Rattle.vlt_meaning.specs.Externals.{from_host, type_in, payload_in, objects_of_keys, new_key}
use Rattle.vlt_heap.specs.declared.slots.Slot.{Slot}
use Rattle.vlt_heap.specs.declared.slots.Obj.{Obj}
use Rattle.vlt_heap.specs.declared.heap.Heap.{Heap}
use Rattle.vlt_heap.specs.Items.{Items, IsMadeAt}
use Rattle.vlt_heap.specs.Shown.{Holds, heap_of}
use Rattle.vlt_acts.specs.declared.values.values.Values.{Values}
use Rattle.vlt_acts.specs.Values.Parts.{HasPart, HaveParts, HaveValue}
use Rattle.vlt_acts.specs.Values.Shown.{ShowObjects, key_at, Seen}
use Rattle.vlt_acts.specs.Acts.Acts.{Shows}
use Rattle.vlt_acts.specs.Objects.Cases.{ShowsKeys}
use Rattle.vlt_externals.specs.Sent.{ShowsAll}
use Rattle.vlt_externals.specs.declared.results.results.NewKey.{NewKey}
use Rattle.vlt_externals.specs.Results.Stated.{AreCaseObjects}

-- ---- what is made

-- a part of a value, and all objects after it
abbrev pub part_made : (budget type : ℕ) → Piece → List Object → Found (Part × List Object)
part_made b t (plain z) objects = Ok (number z, objects)
part_made b t (new_in s) objects =
    if is_full b objects then Err heap_end
    else Ok (owned (length objects), objects ++ from_host t s loose ∷ [])

abbrev pub pieces_made : (budget : ℕ) → List Ty → List Piece → List Object → Found (List Part × List Object)
pieces_made b (t ∷ ts) (x ∷ xs) objects = do
  q ← part_made b (type_in (Some t)) x objects
  r ← pieces_made b ts xs q.1
  Ok (q.0 ∷ r.0, r.1)
pieces_made b _ _ objects = Ok ([], objects)

abbrev pub case_made : (budget case : ℕ) → List Ty → List Piece → (keys : List ℕ) → List Object → Found (Value × List Object)
case_made b c ts xs ns objects = do
  q ← pieces_made b ts xs objects
  Ok (of_case c q.0 ns, q.1)

-- what a call gives, with the frame and all objects after it
pub record Made : Type 0 where
  pub value : Option Value
  pub frame : Frame
  pub objects : List Object

abbrev pub fresh_made : (budget type : ℕ) → Option Binding → Frame → List Object → Found Made
fresh_made b t None frame objects = Ok (record { value = None; frame = frame; objects = objects })
fresh_made b t (Some k) frame objects =
    if is_full b objects then Err heap_end
    else Ok (record {
      value = Some (one (reference (length objects)));
      frame = with_key k.key (length objects) frame;
      objects = objects ++ from_host t k.number (held frame.depth k.key) ∷ [];
    })

-- ---- new objects

-- somebody has an object, who is neither an object nor the host
pub record IsKeeper (owner : Owner) : Type 0 where
  pub live : is_gone owner ≡ false
  pub root : above owner ≡ None
  pub here : is_out owner ≡ false

-- the last object is the new one, of this number at this place
pub record ShowsNew (before : Items) (heap : Heap) (width : ℕ) (objects : List Object) (n : ℕ) (o : Obj × ℕ) : Type 0 where
  pub shows : ShowsAll before heap width objects
  pub made : IsMadeAt shows.items o.0.0 n
  pub number : o.1 ≡ n

abbrev pub IsNewOrFull : Items → Heap → (width budget : ℕ) → Object → List Object → Result (Obj × ℕ) HeapEnd → Type 0
IsNewOrFull before heap width b x objects (Ok o) =
    (is_full b objects ≡ false) × ShowsNew before heap width (objects ++ x ∷ []) (length objects) o
IsNewOrFull before heap width b x objects (Err e) = is_full b objects ≡ true

-- a new object is made in a state, whatever objects the heap showed
abbrev pub MakesIn : (type state : ℕ) → (old new : Heap) → Result (Obj × ℕ) HeapEnd → Type 0
MakesIn t s old new r =
    (items : Items) (values : Values) (objects : List Object) (owner : Owner) → IsKeeper owner → Holds old items →
    ShowObjects items values.width objects →
    IsNewOrFull items new values.width (heap_of old) (from_host t s owner) objects r

-- ---- parts

pub record HasPartMade (before : Items) (heap : Heap) (width : ℕ) (r : Result Slot HeapEnd) (p : Part) (objects : List Object) : Type 0 where
  pub slot : Slot
  pub is : r ≡ Ok slot
  pub shows : ShowsAll before heap width objects
  pub part : HasPart shows.items p slot

abbrev pub IsPartMade : Items → Heap → (width : ℕ) → Result Slot HeapEnd → Found (Part × List Object) → Type 0
IsPartMade before heap width r (Ok q) = HasPartMade before heap width r q.0 q.1
IsPartMade before heap width r (Err o) = (o ≡ heap_end) × (is_ok r ≡ false)

-- a slot for what was read
abbrev pub MakesPart : (type : ℕ) → Piece → (old new : Heap) → Result Slot HeapEnd → Type 0
MakesPart t x old new r =
    (items : Items) (values : Values) (objects : List Object) → Holds old items → ShowObjects items values.width objects →
    IsPartMade items new values.width r (part_made (heap_of old) t x objects)

pub record HavePartsMade (before : Items) (heap : Heap) (values : Values) (to : ℕ) (r : Result (Unit {0}) HeapEnd) (ps : List Part) (objects : List Object) : Type 0 where
  pub is : r ≡ Ok tt
  pub shows : ShowsAll before heap values.width objects
  pub parts : HaveParts shows.items values.slots.items to ps

abbrev pub ArePartsMade : Items → Heap → Values → (to : ℕ) → Result (Unit {0}) HeapEnd → Found (List Part × List Object) → Type 0
ArePartsMade before heap values to r (Ok q) = HavePartsMade before heap values to r q.0 q.1
ArePartsMade before heap values to r (Err o) = (o ≡ heap_end) × (is_ok r ≡ false)

-- slots from a position on have what is read
abbrev pub PutsPieces : List Ty → List ℤ → (to : ℕ) → (old new : Values) → (before after : Heap) → Result (Unit {0}) HeapEnd → Type 0
PutsPieces ts zs to old new before after r =
    (items : Items) (objects : List Object) (xs : List Piece) (rest : List ℤ) → Holds before items →
    ShowObjects items old.width objects → each piece_of ts zs ≡ Some (xs, rest) →
    ArePartsMade items after new to r (pieces_made (heap_of before) ts xs objects)

-- ---- values

-- the slots of all keys that name objects stand before this position
abbrev pub AreBefore : (to : ℕ) → Values → Frame → Type 0
AreBefore to values frame = (k n : ℕ) → frame.keys k ≡ Some n → key_at values k < to

-- slots from a position on own the objects of a case's keys
abbrev pub PutsKeys : (keys args : List ℕ) → List CaseKey → (to : ℕ) → (old new : Values) → Type 0
PutsKeys keys args ks to old new =
    (items : Items) (frame : Frame) (ns : List ℕ) → ShowsKeys items old frame → AreBefore to old frame →
    AreCaseObjects keys args frame ks ns → HaveParts items new.slots.items to (map owned ns)

pub record HasValueMade (before : Items) (heap : Heap) (values : Values) (to : ℕ) (r : Result (Unit {0}) HeapEnd) (a : Value) (objects : List Object) : Type 0 where
  pub is : r ≡ Ok tt
  pub shows : ShowsAll before heap values.width objects
  pub value : HaveValue shows.items values.slots.items to values.width a

abbrev pub IsValueMade : Items → Heap → Values → (to : ℕ) → Result (Unit {0}) HeapEnd → Found (Value × List Object) → Type 0
IsValueMade before heap values to r (Ok q) = HasValueMade before heap values to r q.0 q.1
IsValueMade before heap values to r (Err o) = (o ≡ heap_end) × (is_ok r ≡ false)

-- a value of a case stands at a position
abbrev pub PutsCase : (keys args : List ℕ) → (case : ℕ) → CaseDecl → List ℤ → (to : ℕ) → (old new : Values) → (before after : Heap) → Result (Unit {0}) HeapEnd → Type 0
PutsCase keys args c d zs to old new before after r =
    (items : Items) (objects : List Object) (frame : Frame) (ns ss : List ℕ) (xs : List Piece) (more rest : List ℤ) →
    Holds before items → ShowObjects items old.width objects → ShowsKeys items old frame → AreBefore to old frame →
    AreCaseObjects keys args frame d.keys ns → each key_state d.keys zs ≡ Some (ss, more) →
    each piece_of d.payload more ≡ Some (xs, rest) →
    IsValueMade items after new to r (case_made (heap_of before) c d.payload xs ns objects)

-- ---- what a call gives

-- a number, a bool or a new object
abbrev pub single_made : (budget type : ℕ) → Piece → List Object → Found (Value × List Object)
single_made b t x objects = do
  q ← part_made b t x objects
  Ok (one q.0, q.1)

abbrev pub PutsPiece : Ty → List ℤ → (to : ℕ) → (old new : Values) → (before after : Heap) → Result (Unit {0}) HeapEnd → Type 0
PutsPiece t zs to old new before after r =
    (items : Items) (objects : List Object) (x : Piece) (rest : List ℤ) → Holds before items →
    ShowObjects items old.width objects → piece_of t zs ≡ Some (x, rest) →
    IsValueMade items after new to r (single_made (heap_of before) (type_in (Some t)) x objects)

-- the caller's keys of a case name objects
pub record HasCaseObjects (keys args : List ℕ) (frame : Frame) (d : CaseDecl) : Type 0 where
  pub numbers : List ℕ
  pub are : AreCaseObjects keys args frame d.keys numbers

abbrev pub NameCases : Program → VariantOf → (keys : List ℕ) → Frame → Type 0
NameCases p v keys frame = (c : ℕ) (d : CaseDecl) → case_at p v.type c ≡ Some d → HasCaseObjects keys v.args frame d

-- each case fits so many slots
abbrev pub FitCases : Program → (type width : ℕ) → Type 0
FitCases p t width = (c : ℕ) (d : CaseDecl) → case_at p t c ≡ Some d → 1 + length d.payload + length d.keys ≤ width

-- a value of a variant
abbrev pub variant_made : (budget : ℕ) → Program → VariantOf → (keys : List ℕ) → Frame → Given → List Object → Found (Value × List Object)
variant_made b p v keys frame (case_with c ss xs) objects =
    case_made b c (payload_in (case_at p v.type c)) xs (objects_of_keys keys frame (case_keys p v c)) objects
variant_made b p v keys frame _ objects = Err (fault missing None)

abbrev pub PutsVariant : Program → (keys : List ℕ) → VariantOf → List ℤ → (to : ℕ) → (old new : Values) → (before after : Heap) → Result (Unit {0}) HeapEnd → Type 0
PutsVariant p keys v zs to old new before after r =
    (items : Items) (objects : List Object) (frame : Frame) (given : Given) → Holds before items →
    ShowObjects items old.width objects → ShowsKeys items old frame → AreBefore to old frame → NameCases p v keys frame →
    variant_read p v.type zs ≡ Some (given, []) →
    IsValueMade items after new to r (variant_made (heap_of before) p v keys frame given objects)

abbrev pub result_made : (budget : ℕ) → Program → Func → (keys states : List ℕ) → Given → Frame → List Object → Found Made
result_made b p g keys states nothing frame objects =
    fresh_made b (type_in g.result) (new_key keys (entries_after g) states) frame objects
result_made b p g keys states (piece x) frame objects = do
  q ← single_made b (type_in g.result) x objects
  Ok (record { value = Some q.0; frame = frame; objects = q.1 })
result_made b p g keys states (case_with c ss xs) frame objects = do
  v ← or_fault missing (variant_in g.result)
  q ← variant_made b p v keys frame (case_with c ss xs) objects
  Ok (record { value = Some q.0; frame = frame; objects = q.1 })

-- the caller's key for a new object, with its state
abbrev pub binding_of : NewKey → Binding
binding_of n = binding n.state n.key.0

-- a call lists the key
pub record IsListed (keys : List ℕ) (k : ℕ) : Type 0 where
  pub position : ℕ
  pub at : slice_get keys position ≡ Some k

abbrev pub NamesNew : Program → Func → (keys : List ℕ) → List Entry → List ℤ → Option NewKey → Type 0
NamesNew p g keys es zs r =
    (ss : List ℕ) (rest : List ℤ) →
    each (λ e. state_in (after_set p g e)) (filter is_held_after es) zs ≡ Some (ss, rest) →
    option_map binding_of r ≡ new_key keys (filter is_held_after es) ss

pub record HasResultMade (before : Items) (heap : Heap) (values : Values) (to : ℕ) (r : Result (Unit {0}) HeapEnd) (m : Made) : Type 0 where
  pub is : r ≡ Ok tt
  pub shows : Shows before heap values m.frame m.objects
  pub value : (a : Value) → m.value ≡ Some a → HaveValue shows.items values.slots.items to values.width a
  pub keys_before : AreBefore to values m.frame

-- it was made, or the heap was full, or the run goes wrong
abbrev pub IsResultMade : Items → Heap → Values → (to : ℕ) → Result (Unit {0}) HeapEnd → Found Made → Type 0
IsResultMade before heap values to r (Ok m) = HasResultMade before heap values to r m
IsResultMade before heap values to r (Err o) = ((o ≡ heap_end) × (is_ok r ≡ false)) ⊎ (is_fault o ≡ true)

abbrev pub PutsNew : (type : ℕ) → Binding → (to : ℕ) → (old new : Values) → (before after : Heap) → Result (Unit {0}) HeapEnd → Type 0
PutsNew t k to old new before after r =
    (c : Seen before old) → AreBefore to old c.frame →
    IsResultMade c.items after new to r (fresh_made (heap_of before) t (Some k) c.frame c.objects)

abbrev pub PutsFresh : Program → Func → (type : ℕ) → (keys : List ℕ) → List ℤ → (to : ℕ) → (old new : Values) → (before after : Heap) → Result (Unit {0}) HeapEnd → Type 0
PutsFresh p g t keys zs to old new before after r =
    (c : Seen before old) (ss : List ℕ) (rest : List ℤ) → AreBefore to old c.frame →
    each (λ e. state_in (after_set p g e)) (entries_after g) zs ≡ Some (ss, rest) →
    IsResultMade c.items after new to r
    (fresh_made (heap_of before) t (new_key keys (entries_after g) ss) c.frame c.objects)

-- each case that the call can give fits so many slots
abbrev pub FitsResult : Program → Func → (width : ℕ) → Type 0
FitsResult p g width = (v : VariantOf) → variant_in g.result ≡ Some v → FitCases p v.type width

-- the caller's keys of each case that the call can give name objects
abbrev pub NamesCases : Program → Func → (keys : List ℕ) → Frame → Type 0
NamesCases p g keys frame = (v : VariantOf) → variant_in g.result ≡ Some v → NameCases p v keys frame

-- what a call gives stands at a position, whatever the tables showed
abbrev pub PutsResult : Program → Func → (keys : List ℕ) → (answer result : List ℤ) → (to : ℕ) → (old new : Values) → (before after : Heap) → Result (Unit {0}) HeapEnd → Type 0
PutsResult p g keys zs rs to old new before after r =
    (c : Seen before old) (a : Answer) → AreBefore to old c.frame → NamesCases p g keys c.frame →
    each (λ e. state_in (after_set p g e)) (entries_after g) zs ≡ Some (a.states, rs) →
    result_read p g.result rs ≡ Some (a.result, []) →
    IsResultMade c.items after new to r (result_made (heap_of before) p g keys a.states a.result c.frame c.objects)
