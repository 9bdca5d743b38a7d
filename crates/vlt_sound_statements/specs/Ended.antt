-- Objects that are released, with all that is below them.
use Rattle.std.specs.Prelude.{◌≡◌, ℕ, Bool, true, IsTrue, List, length, Some}
use Rattle.vlt_core.specs.Core.{Program}
use Rattle.vlt_core.specs.Lookups.{release_set}
use Rattle.vlt_meaning.specs.World.{Object, above}
use Rattle.vlt_sound_worlds.specs.Look.{look, EndsThose}
use Rattle.vlt_sound_worlds.specs.Ranks.{IsRanked}
use Rattle.vlt_sound_worlds.specs.Below.{HasUpper}
use Rattle.vlt_sound_worlds.specs.Members.{In}
use Rattle.vlt_core_laws.specs.Parts.{IsFree}

-- The objects of the list pass, what is in or was adopted by one that passes does, and nothing else.
pub record IsBelowAll (os : ℕ → Object) (xs : List ℕ) (test : ℕ → Bool) : Type 0 where
  pub itself : (m : ℕ) → In m xs → test m ≡ true
  pub up : (m p : ℕ) → above (os m).owner ≡ Some p → test p ≡ true → test m ≡ true
  pub down : (m : ℕ) → test m ≡ true → (In m xs → ⊥) → HasUpper os test m

-- the objects of the list were released, and all that was below them
pub record AreEnded (xs : List ℕ) (os os' : List Object) : Type 0 where
  pub test : ℕ → Bool
  pub ends : EndsThose test (look os) (look os')
  pub below : IsBelowAll (look os) xs test
  pub ranked : IsRanked (look os')
  pub long : length os' ≡ length os

-- the object may be released, and so may all that it owns
pub record MayEnd (p : Program) (o : Object) : Type 0 where
  pub released : IsTrue (release_set p o.type o.state)
  pub free : IsFree p o.type
