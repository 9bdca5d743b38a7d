-- The states that an answer gives to objects of keys.
use Rattle.std.specs.Prelude.{◌≡◌, ℕ, true, IsTrue, if◌then◌else◌, List, [], ◌∷◌, Some, slice_get}
use Rattle.vlt_core.specs.Core.{States, a_key, Entry, Func, Program}
use Rattle.vlt_core.specs.Lookups.{key_type, all_states, is_new, states_or_all, after_set}
use Rattle.vlt_core.specs.Maps as maps
use Rattle.vlt_core.specs.Maps.{HeldMap, wants_held, becomes_held, Row, row_passed}
use Rattle.vlt_core.specs.Rows.{row}
use Rattle.vlt_sound_calls.specs.Callee.{AreApartBy, caller_key}
use Rattle.vlt_sound_calls.specs.Among.{Among}

-- the caller's key of an entry is held in the states that the clause says for after the call
abbrev pub told_row : Program → Func → (keys : List ℕ) → Entry → Row
told_row p f keys e =
    row (a_key (caller_key keys e)) wants_held (becomes_held (states_or_all p f (caller_key keys e) e.after))

-- the map where the objects of entries, those of new keys aside, have their new states
abbrev pub map_after_telling : Program → Func → (keys : List ℕ) → List Entry → HeldMap → HeldMap
map_after_telling p f keys [] h = h
map_after_telling p f keys (e ∷ es) h =
    if is_new e then map_after_telling p f keys es h else map_after_telling p f keys es (row_passed (told_row p f keys e) h)

-- the states that the clause allows are states of the type of the caller's key
pub record IsTellable (p : Program) (f g : Func) (keys : List ℕ) (e : Entry) : Type 0 where
  pub there : slice_get keys e.key ≡ Some (caller_key keys e)
  pub type : ℕ
  pub typed : key_type f (caller_key keys e) ≡ Some type
  pub allowed : (s : ℕ) → IsTrue (after_set p g e s) → IsTrue (states_or_all p f (caller_key keys e) e.after s)
  pub states : (s : ℕ) → IsTrue (after_set p g e s) → IsTrue (all_states p type s)

pub record IsHeldAt (h : HeldMap) (k : ℕ) : Type 0 where
  pub states : States
  pub is : h (a_key k) ≡ maps.held states

-- each entry, those of new keys aside, has another key of the caller, which is held
pub record AreTellable (p : Program) (f g : Func) (keys : List ℕ) (es : List Entry) (h : HeldMap) : Type 0 where
  pub each : (e : Entry) → Among e es → (is_new e ≡ true → ⊥) → IsTellable p f g keys e
  pub held : (e : Entry) → Among e es → (is_new e ≡ true → ⊥) → IsHeldAt h (caller_key keys e)
  pub apart : AreApartBy (caller_key keys) es
