-- What is known of a scope without a run.
use Rattle.std.specs.Prelude.{◌≡◌, ◌⊎◌, ℕ, nat_lt, true, IsTrue, List, [], ◌∷◌, length, Some}
use Rattle.vlt_core.specs.Core.{Ty, tracked, Func}
use Rattle.vlt_core.specs.Lookups.{var_type}
use Rattle.vlt_core.specs.Types.{keys_of_ty}
use Rattle.vlt_core.specs.KindedHeads.{has, keys_of_parameters}
use Rattle.vlt_core.specs.KindedScopes.{Ids}
use Rattle.vlt_sound_worlds.specs.Members.{In}
use Rattle.vlt_sound_worlds.specs.Agrees.{InScope, Handed, Pin, Context}

abbrev pub IsKeyInScope : Ids → (key : ℕ) → Type 0
IsKeyInScope ids k = has ids.keys k ≡ true

-- the key was bound, in scope or not
abbrev pub WasKeyBound : Ids → (key : ℕ) → Type 0
WasKeyBound ids k = has ids.keys_ever k ≡ true

abbrev pub WasVarBound : Ids → (v : ℕ) → Type 0
WasVarBound ids v = has ids.vars_ever v ≡ true

abbrev pub WerePinsBound : Ids → List Pin → Type 0
WerePinsBound ids [] = Unit {0}
WerePinsBound ids (q ∷ qs) = WasKeyBound ids q.key × WerePinsBound ids qs

-- the key of a reference in scope
pub record IsOwnKey (f : Func) (ids : Ids) (k : ℕ) : Type 0 where
  pub var : ℕ
  pub type : ℕ
  pub args : List ℕ
  pub is : var_type f var ≡ Some (tracked k type args)
  pub scoped : InScope ids var

pub record IsScoped (f : Func) (c : Context) (ids : Ids) : Type 0 where
  -- the keys of the type of a variable in scope are in scope
  pub vars : (v k : ℕ) (ty : Ty) → InScope ids v → var_type f v ≡ Some ty → In k (keys_of_ty ty) →
      IsKeyInScope ids k
  -- what is in scope was bound
  pub keys : (k : ℕ) → IsKeyInScope ids k → WasKeyBound ids k
  pub ever : (v : ℕ) → InScope ids v → WasVarBound ids v
  -- so were the keys of the head that the function has, and those that are pinned
  pub head : (k : ℕ) → IsTrue (c.head k) → nat_lt k (length f.keys) ≡ true → WasKeyBound ids k
  pub pins : WerePinsBound ids c.pins
  -- a key in scope is one of the parameters' types, or that of a reference in scope
  pub owned : (k : ℕ) → IsKeyInScope ids k → (has (keys_of_parameters f) k ≡ true) ⊎ IsOwnKey f ids k

-- the keys of a variable's type are keys of the function
pub record HasKeys (f : Func) : Type 0 where
  pub keys : (v k : ℕ) (ty : Ty) → var_type f v ≡ Some ty → In k (keys_of_ty ty) →
      nat_lt k (length f.keys) ≡ true

-- what was in scope is, and what was bound stays so
pub record Widens (before after : Ids) : Type 0 where
  pub vars : (v : ℕ) → InScope before v → InScope after v
  pub keys : (k : ℕ) → IsKeyInScope before k → IsKeyInScope after k
  pub vars_ever : (v : ℕ) → WasVarBound before v → WasVarBound after v
  pub keys_ever : (k : ℕ) → WasKeyBound before k → WasKeyBound after k

-- the types of what is handed over speak of no other keys than those in scope
abbrev pub AreKeysInScope : Ids → List Handed → Type 0
AreKeysInScope ids [] = Unit {0}
AreKeysInScope ids (x ∷ xs) =
    ((k : ℕ) → In k (keys_of_ty x.type) → IsKeyInScope ids k) × AreKeysInScope ids xs
