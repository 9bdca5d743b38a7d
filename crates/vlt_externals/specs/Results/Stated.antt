-- States that an answer gives, and objects of a case's keys that come back.
use Rattle.std.specs.Prelude.{◌≡◌, ℕ, ℤ, Bool, true, false, if◌then◌else◌, List, [], ◌∷◌, filter, Option, Some, slice_get}
use Rattle.std.specs.List.{zip}
use Rattle.std.specs.Option.{option_map, option_to_list, option_and_then}
use Rattle.vlt_core.specs.Core.{CaseKey, Entry, Func, Program}
use Rattle.vlt_core.specs.Lookups.{is_held_after, is_new, after_set}
use Rattle.vlt_meaning.specs.World.{Frame, is_out, loose}
use Rattle.vlt_meaning.specs.Objects.{objects_after_move}
use Rattle.vlt_meaning.specs.Calls.{caller_object}
use Rattle.vlt_meaning.specs.HostAnswers.{each, state_in, key_state}
use Rattle.vlt_meaning.specs.Externals.{entry_states, with_states}
use Rattle.vlt_heap.specs.declared.heap.Heap.{Heap}
use Rattle.vlt_acts.specs.declared.values.values.Values.{Values}
use Rattle.vlt_acts.specs.Values.Shown.{Seen}
use Rattle.vlt_acts.specs.Acts.Acts.{Shows}
use Rattle.vlt_externals.specs.Sent.{IsNamed}
use Rattle.vlt_externals.specs.Back.{AreBack}

-- ---- entries

-- the states that an entry's object gets; a new object isn't there yet
abbrev pub state_of_entry : (keys : List ℕ) → Frame → Entry → (state : ℕ) → List (ℕ × ℕ)
state_of_entry keys frame e s =
    if is_new e then [] else option_to_list (option_map (λ n. (n, s)) (caller_object keys frame e))

-- objects were given these states
abbrev pub Sets : (values : Values) → (old new : Heap) → ((frame : Frame) → List (ℕ × ℕ)) → (c : Seen old values) → Type 0
Sets values old new states c = Shows c.items new values c.frame (with_states (states c.frame) c.objects)

-- the caller's key of each entry that is held after names an object, those of new ones aside
abbrev pub AreOldNamed : (keys : List ℕ) → Frame → List Entry → Type 0
AreOldNamed keys frame [] = Unit {0}
AreOldNamed keys frame (e ∷ es) =
    (is_held_after e ≡ true → is_new e ≡ false → IsNamed keys frame e) × AreOldNamed keys frame es

abbrev pub SetsEntry : (keys : List ℕ) → Entry → (state : ℕ) → Values → (old new : Heap) → Type 0
SetsEntry keys e s values old new =
    (c : Seen old values) → (is_new e ≡ false → IsNamed keys c.frame e) →
    Sets values old new (λ frame. state_of_entry keys frame e s) c

-- the entries held after get the states that are read
abbrev pub SetsEntries : Program → Func → (keys : List ℕ) → List Entry → List ℤ → Values → (old new : Heap) → Type 0
SetsEntries p g keys es zs values old new =
    (c : Seen old values) (ss : List ℕ) (rest : List ℤ) → AreOldNamed keys c.frame es →
    each (λ e. state_in (after_set p g e)) (filter is_held_after es) zs ≡ Some (ss, rest) →
    Sets values old new (λ frame. entry_states keys frame (filter is_held_after es) ss) c

-- ---- the keys of a case

-- the caller's key that stands for a key of a case
abbrev pub key_for : (keys args : List ℕ) → (position : ℕ) → Option ℕ
key_for keys args i = option_and_then (slice_get keys) (slice_get args i)

-- the caller's keys for these keys of a case name these objects
abbrev pub AreCaseObjects : (keys args : List ℕ) → Frame → List CaseKey → List ℕ → Type 0
AreCaseObjects keys args frame [] [] = Unit {0}
AreCaseObjects keys args frame (k ∷ ks) (n ∷ ns) =
    (option_and_then frame.keys (key_for keys args k.position) ≡ Some n) × AreCaseObjects keys args frame ks ns
AreCaseObjects keys args frame _ _ = ⊥

-- the object of a key comes back to the value, or it wasn't out
abbrev pub ComesOneLoose : (key : ℕ) → Values → (old new : Heap) → Bool → Type 0
ComesOneLoose k values old new b =
    (c : Seen old values) (n : ℕ) → c.frame.keys k ≡ Some n →
    AreBack c.items new values c.frame b (objects_after_move is_out loose (n ∷ []) c.objects)

-- those of a case's keys come back to the value, or one of them wasn't out
abbrev pub ComesLoose : (keys args : List ℕ) → List CaseKey → Values → (old new : Heap) → Bool → Type 0
ComesLoose keys args ks values old new b =
    (c : Seen old values) (ns : List ℕ) → AreCaseObjects keys args c.frame ks ns →
    AreBack c.items new values c.frame b (objects_after_move is_out loose ns c.objects)

-- they get the states that are read
abbrev pub SetsCase : (keys args : List ℕ) → List CaseKey → List ℤ → Values → (old new : Heap) → Type 0
SetsCase keys args ks zs values old new =
    (c : Seen old values) (ns ss : List ℕ) (rest : List ℤ) → AreCaseObjects keys args c.frame ks ns →
    each key_state ks zs ≡ Some (ss, rest) → Sets values old new (λ frame. zip ns ss) c
