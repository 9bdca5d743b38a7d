-- Several objects get a new owner.
use Rattle.std.specs.Prelude.{◌≡◌, ℕ, ◌<◌, Bool, true, List, length, Ok}
use Rattle.vlt_meaning.specs.World.{Owner, Object}
use Rattle.vlt_meaning.specs.Objects.{with_owner, objects_after_move}
use Rattle.vlt_sound_worlds.specs.Look.{look}
use Rattle.vlt_sound_worlds.specs.Members.{In}

-- the objects of a list get this owner, and nothing else changes
pub record MovesThese (xs : List ℕ) (q : Owner) (old new : ℕ → Object) : Type 0 where
  pub those : (n : ℕ) → In n xs → new n ≡ with_owner q (old n)
  pub others : (n : ℕ) → (In n xs → ⊥) → new n ≡ old n

-- each object of the list is there, with an owner that passes the test
abbrev pub ArePassing : (Owner → Bool) → List ℕ → List Object → Type 0
ArePassing from xs os = (n : ℕ) → In n xs → (n < length os) × (from (look os n).owner ≡ true)

-- the objects are moved one after another
pub record IsMoved (from : Owner → Bool) (to : Owner) (xs : List ℕ) (os : List Object) : Type 0 where
  pub objects : List Object
  pub is : objects_after_move from to xs os ≡ Ok objects
  pub change : MovesThese xs to (look os) (look objects)
  pub long : length objects ≡ length os
