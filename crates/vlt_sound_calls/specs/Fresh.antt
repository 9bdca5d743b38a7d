-- What is known without a run of a call's keys for new objects, and of its result.
use Rattle.std.specs.Prelude.{◌≡◌, ℕ, true, List, [], Some}
use Rattle.vlt_core.specs.Core.{tracked, Entry, Func}
use Rattle.vlt_core.specs.Lookups.{key_type, is_held_after, is_new}
use Rattle.vlt_core.specs.KindedScopes.{Ids}
use Rattle.vlt_sound_worlds.specs.Agrees.{Context}
use Rattle.vlt_sound_worlds.specs.Scopes.{IsFresh}
use Rattle.vlt_sound_calls.specs.Callee.{caller_key, IsParamKey}
use Rattle.vlt_sound_calls.specs.Among.{Among}

-- The caller's key for a `new` one is new, and has the type of the result's object. Each other entry is of a key of the
-- parameters.
pub record IsFreshCall (f : Func) (c : Context) (g : Func) (ids : Ids) (keys : List ℕ) : Type 0 where
  pub fresh : (e : Entry) → Among e g.clause → is_new e ≡ true → IsFresh f c ids [] (caller_key keys e)
  pub typed : (e : Entry) (t : ℕ) (args : List ℕ) → Among e g.clause → is_new e ≡ true →
      g.result ≡ Some (tracked e.key t args) → key_type f (caller_key keys e) ≡ Some t
  pub result : (e : Entry) → Among e g.clause → is_new e ≡ true →
      (t : ℕ) × (args : List ℕ) × (g.result ≡ Some (tracked e.key t args))
  pub params : (e : Entry) → Among e g.clause → is_held_after e ≡ true → (is_new e ≡ true → ⊥) → IsParamKey g e.key
