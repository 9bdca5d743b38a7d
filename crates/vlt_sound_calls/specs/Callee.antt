-- What is known of a call without a run, and the context that a callee begins in.
use Rattle.std.specs.Prelude.{◌≡◌, ℕ, suc, ◌==◌, true, false, ◌&&◌, if◌then◌else◌, List, [], ◌∷◌, length, nat_lt, None, Some, slice_get}
use Rattle.vlt_core.specs.Core.{a_key, Entry, Func, Program}
use Rattle.vlt_core.specs.Lookups.{key_type, is_held_before}
use Rattle.vlt_core.specs.Types.{stands_for}
use Rattle.vlt_core.specs.Maps.{absent, HeldMap, is_tok}
use Rattle.vlt_core.specs.KindedHeads.{has, keys_of_parameters}
use Rattle.vlt_core.specs.KindedScopes.{Ids}
use Rattle.vlt_meaning.specs.World.{Frame}
use Rattle.vlt_meaning.specs.Calls.{is_new_key, callee_key}
use Rattle.vlt_sound_worlds.specs.Agrees.{Waiting, Context}
use Rattle.vlt_sound_worlds.specs.Scoped.{IsKeyInScope}
use Rattle.vlt_sound_calls.specs.Among.{Among}
use Rattle.vlt_sound_calls.specs.Returned.{is_lasting}

-- no two entries of the list have the same number
abbrev pub AreApartBy : (Entry → ℕ) → List Entry → Type 0
AreApartBy at [] = Unit {0}
AreApartBy at (e ∷ es) = ((d : Entry) → Among d es → at d ≡ at e → ⊥) × AreApartBy at es

-- the key of a call that stands for an entry's
abbrev pub caller_key : (keys : List ℕ) → Entry → ℕ
caller_key keys e = stands_for keys e.key

abbrev pub IsParamKey : Func → ℕ → Type 0
IsParamKey g k = has (keys_of_parameters g) k ≡ true

-- the keys of a call fit the callee's head
pub record IsCall (p : Program) (f g : Func) (ids : Ids) (keys : List ℕ) : Type 0 where
  -- each key of an entry and of a parameter's type has one of the caller
  pub entries : (e : Entry) → Among e g.clause → slice_get keys e.key ≡ Some (caller_key keys e)
  pub params : (k : ℕ) → IsParamKey g k → slice_get keys k ≡ Some (stands_for keys k)
  -- which is no `new` one
  pub old : (k : ℕ) → IsParamKey g k → is_new_key g k ≡ false
  -- no other number has one
  pub beyond : (k : ℕ) → nat_lt k (length g.keys) ≡ false → slice_get keys k ≡ None
  -- an entry that is held before is of a parameter's key
  pub before : (e : Entry) → Among e g.clause → is_held_before e ≡ true → IsParamKey g e.key
  pub apart : AreApartBy (λ e. e.key) g.clause
  pub callers : AreApartBy (caller_key keys) g.clause
  -- the caller's keys are in scope, and have the types of those that they stand for
  pub scoped : (k : ℕ) → IsParamKey g k → IsKeyInScope ids (stands_for keys k)
  pub typed : (k t : ℕ) → IsParamKey g k → key_type g k ≡ Some t → key_type f (stands_for keys k) ≡ Some t

-- the map of a caller that waits: it doesn't have what the callee has
abbrev pub without : (keys : List ℕ) → List Entry → HeldMap → HeldMap
without keys [] h t = h t
without keys (e ∷ es) h t =
    if is_held_before e && is_tok t (a_key (caller_key keys e)) then absent else without keys es h t

abbrev pub with_waiting : (depth : ℕ) → Waiting → (ℕ → Waiting) → ℕ → Waiting
with_waiting d a old e = if e == d then a else old e

abbrev pub callee_context : Func → (h : HeldMap) → Ids → Frame → Context → Func → (keys : List ℕ) → Context
callee_context f h ids frame c g keys = record {
  depth = suc frame.depth;
  deepest = suc frame.depth;
  head = is_lasting g;
  names = callee_key g keys frame;
  foci = c.foci;
  pins = [];
  waiting =
      with_waiting frame.depth
      (record { func = f; map = without keys g.clause h; ids = ids; frame = frame }) c.waiting;
}
