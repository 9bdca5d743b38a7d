-- The objects of a world as a function of their positions, and what a change does to it.
use Rattle.std.specs.Prelude.{◌≡◌, ℕ, Bool, true, false, List, [], Option, None, Some, slice_get}
use Rattle.vlt_meaning.specs.World.{Owner, gone, Object}
use Rattle.vlt_meaning.specs.Objects.{with_owner}

-- what stands where there is no object
abbrev pub nothing : Object
nothing = record { type = 0; state = 0; cells = []; owner = gone }

abbrev pub look_in : Option Object → Object
look_in None = nothing
look_in (Some o) = o

abbrev pub look : List Object → ℕ → Object
look os n = look_in (slice_get os n)

abbrev pub IsLive : (ℕ → Object) → ℕ → Type 0
IsLive os n = (os n).owner ≡ gone → ⊥

-- one object is changed so, and no other
pub record ChangesOne (n : ℕ) (change : Object → Object) (old new : ℕ → Object) : Type 0 where
  pub here : new n ≡ change (old n)
  pub others : (m : ℕ) → (m ≡ n → ⊥) → new m ≡ old m

-- one object's owner is this one, and no other owner has changed
pub record OwnsOne (n : ℕ) (owner : Owner) (old new : ℕ → Object) : Type 0 where
  pub here : (new n).owner ≡ owner
  pub others : (m : ℕ) → (m ≡ n → ⊥) → (new m).owner ≡ (old m).owner

-- the objects that pass the test are released, and no other is changed
pub record EndsThose (test : ℕ → Bool) (old new : ℕ → Object) : Type 0 where
  pub those : (m : ℕ) → test m ≡ true → new m ≡ with_owner gone (old m)
  pub others : (m : ℕ) → test m ≡ false → new m ≡ old m
