-- Each object that a value or a field owns is at one place, and each place has objects that it owns.
use Rattle.std.specs.Prelude.{◌≡◌, ℕ, List, ◌++◌}
use Rattle.vlt_meaning.specs.World.{Owner, loose, inside}
use Rattle.vlt_sound_worlds.specs.Members.{In, IsOnce}

-- a value or an owning field has the object
abbrev pub IsOwned : Owner → Type 0
IsOwned loose = Unit {0}
IsOwned (inside n) = Unit {0}
IsOwned _ = ⊥

pub record HasIt {A : Type 0} (content : A → List ℕ) (home : A → Owner) (place : A) (n : ℕ)
    (owner : Owner) : Type 0 where
  pub has : In n (content place)
  pub lies : home place ≡ owner

-- Places of any kind: what each has, and who owns an object that is there.
pub record IsPlaced {A : Type 0} (content : A → List ℕ) (home : A → Owner) (owner : ℕ → Owner) : Type 0 where
  pub place : ℕ → A
  pub there : (n : ℕ) → IsOwned (owner n) → HasIt content home (place n) n (owner n)
  pub here : (P : A) (n : ℕ) → In n (content P) → (place n ≡ P) × (owner n ≡ home P)
  pub once : (P : A) → IsOnce (content P)

-- the objects of a list get this owner, and no other owner changes
pub record OwnsThese (xs : List ℕ) (q : Owner) (old new : ℕ → Owner) : Type 0 where
  pub those : (n : ℕ) → In n xs → new n ≡ q
  pub others : (n : ℕ) → (In n xs → ⊥) → new n ≡ old n

-- the first objects of one place go after those of another one
pub record Shifts {A : Type 0} (from to : A) (xs ys zs : List ℕ) (old new : A → List ℕ) : Type 0 where
  pub apart : from ≡ to → ⊥
  pub was : old from ≡ xs ++ ys
  pub left : new from ≡ ys
  pub before : old to ≡ zs
  pub now : new to ≡ zs ++ xs
  pub others : (P : A) → (P ≡ from → ⊥) → (P ≡ to → ⊥) → new P ≡ old P

-- objects come after those of a place, from no place
pub record Takes {A : Type 0} (to : A) (xs zs : List ℕ) (old new : A → List ℕ) : Type 0 where
  pub before : old to ≡ zs
  pub now : new to ≡ zs ++ xs
  pub others : (P : A) → (P ≡ to → ⊥) → new P ≡ old P

-- the first objects of a place go to no place
pub record LetsGo {A : Type 0} (from : A) (xs ys : List ℕ) (old new : A → List ℕ) : Type 0 where
  pub was : old from ≡ xs ++ ys
  pub left : new from ≡ ys
  pub others : (P : A) → (P ≡ from → ⊥) → new P ≡ old P
