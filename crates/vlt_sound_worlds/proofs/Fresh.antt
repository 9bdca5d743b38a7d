-- A key that may be bound is new.
use Rattle.std.proofs.Common.{◌≡◌, ℕ, nat_lt, Bool, true, false, not, List, [], ◌∷◌, length, Some, subst}
use Rattle.vlt_core.specs.Core.{Func}
use Rattle.vlt_core.specs.KindedHeads.{has}
use Rattle.vlt_core.specs.declared.rules.TheConstants as rule
use Rattle.vlt_core.specs.KindedScopes.{Ids, fresh_broken}
use Rattle.vlt_sound_worlds.specs.Agrees.{Handed, Pin, Context}
use Rattle.vlt_sound_worlds.proofs.Empty.{unless_so}
use Rattle.vlt_sound_worlds.specs.Scopes.{NoneSpeaks, NonePins, IsFresh}
use Rattle.vlt_sound_worlds.specs.Scoped.{WasKeyBound, WerePinsBound, IsScoped, AreKeysInScope}

clash : (b : Bool) → b ≡ true → not b ≡ true → ⊥
clash true e n = cc
clash false e n = cc

module _ {f : Func} {c : Context} {ids : Ids} (scoped : IsScoped f c ids) (k : ℕ) where
  -- of keys that were bound
  module _ (never : WasKeyBound ids k → ⊥) where
    none_speaks : (hand : List Handed) → AreKeysInScope ids hand → NoneSpeaks k hand
    none_speaks [] there = tt
    none_speaks (x ∷ xs) there = (λ i. never (scoped.keys k (there.0 k i)), none_speaks xs there.1)

    none_pins : (qs : List Pin) → WerePinsBound ids qs → NonePins k qs
    none_pins [] was = tt
    none_pins (q ∷ qs) was = (λ e. never (subst (WasKeyBound ids) e was.0), none_pins qs was.1)

  pub is_fresh : (hand : List Handed) → AreKeysInScope ids hand → nat_lt k (length f.keys) ≡ true →
      fresh_broken f ids (Some k) ≡ [] → IsFresh f c ids hand k
  is_fresh hand there lt e = record {
    vars = λ v ty i is at. never (scoped.keys k (scoped.vars v k ty i is at));
    handed = none_speaks never hand there;
    head = λ i. never (scoped.head k i lt);
    pins = none_pins never c.pins scoped.pins;
  }
    where
      never : WasKeyBound ids k → ⊥
      never was = let q = rw lt at e in clash (has ids.keys_ever k) was (unless_so (not (has ids.keys_ever k)) rule.NAME_TAKEN q)
