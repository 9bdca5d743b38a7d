-- What is known of tokens that a block bound, and of a key that is bound.
use Rattle.std.specs.Prelude.{◌≡◌, ℕ, true, IsTrue, List, [], ◌∷◌, Some}
use Rattle.vlt_core.specs.Core.{Ty, Tok, a_key, a_var, Func}
use Rattle.vlt_core.specs.Lookups.{var_type, is_owning_var}
use Rattle.vlt_core.specs.Types.{keys_of_ty}
use Rattle.vlt_core.specs.KindedScopes.{Ids}
use Rattle.vlt_sound_worlds.specs.Members.{In}
use Rattle.vlt_sound_worlds.specs.Agrees.{InScope, Handed, Pin, Context}

-- each variable of the list owns
abbrev pub AreOwning : Func → List Tok → Type 0
AreOwning f [] = Unit {0}
AreOwning f (a_key k ∷ ts) = AreOwning f ts
AreOwning f (a_var v ∷ ts) = (is_owning_var f v ≡ true) × AreOwning f ts

-- no type of what is handed over speaks of the key
abbrev pub NoneSpeaks : (k : ℕ) → List Handed → Type 0
NoneSpeaks k [] = Unit {0}
NoneSpeaks k (x ∷ xs) = (In k (keys_of_ty x.type) → ⊥) × NoneSpeaks k xs

abbrev pub NonePins : (k : ℕ) → List Pin → Type 0
NonePins k [] = Unit {0}
NonePins k (x ∷ xs) = (x.key ≡ k → ⊥) × NonePins k xs

-- The key is new: no type in scope speaks of it, and it is neither a key of the head nor pinned.
pub record IsFresh (f : Func) (c : Context) (ids : Ids) (hand : List Handed) (k : ℕ) : Type 0 where
  pub vars : (v : ℕ) (ty : Ty) → InScope ids v → var_type f v ≡ Some ty → In k (keys_of_ty ty) → ⊥
  pub handed : NoneSpeaks k hand
  pub head : IsTrue (c.head k) → ⊥
  pub pins : NonePins k c.pins
