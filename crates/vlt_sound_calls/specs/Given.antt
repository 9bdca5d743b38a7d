-- Keys that an external gives back.
use Rattle.std.specs.Prelude.{◌≡◌, ℕ, true, if◌then◌else◌, List, [], ◌∷◌, Some, slice_get}
use Rattle.vlt_core.specs.Core.{States, a_key, Entry}
use Rattle.vlt_core.specs.Maps.{absent, HeldMap, wants_absent, becomes_held, Row, row_passed}
use Rattle.vlt_core.specs.Rows.{row}
use Rattle.vlt_core.specs.KindedScopes.{Ids}
use Rattle.vlt_meaning.specs.Externals.{is_given}
use Rattle.vlt_sound_worlds.specs.Scoped.{IsKeyInScope}
use Rattle.vlt_sound_calls.specs.Callee.{AreApartBy, caller_key}
use Rattle.vlt_sound_calls.specs.Among.{Among}

abbrev pub whatever : States
whatever s = true

-- the key comes back with its object in any state
abbrev pub back_row : (keys : List ℕ) → Entry → Row
back_row keys e = row (a_key (caller_key keys e)) wants_absent (becomes_held whatever)

-- the map where the keys that are given have come back
abbrev pub came : (keys : List ℕ) → List Entry → HeldMap → HeldMap
came keys [] h = h
came keys (e ∷ es) h = if is_given e then came keys es (row_passed (back_row keys e) h) else came keys es h

-- each entry has another key of the caller; one that is given is in scope, and absent
pub record AreGivable (ids : Ids) (keys : List ℕ) (es : List Entry) (h : HeldMap) : Type 0 where
  pub there : (e : Entry) → Among e es → slice_get keys e.key ≡ Some (caller_key keys e)
  pub apart : AreApartBy (caller_key keys) es
  pub scoped : (e : Entry) → Among e es → is_given e ≡ true → IsKeyInScope ids (caller_key keys e)
  pub away : (e : Entry) → Among e es → is_given e ≡ true → h (a_key (caller_key keys e)) ≡ absent
