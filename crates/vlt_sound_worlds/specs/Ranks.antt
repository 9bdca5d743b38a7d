-- Chains of owners have no cycle: each object is lower than the one that it is in or was adopted by, and that one
-- isn't released.
use Rattle.std.specs.Prelude.{◌≡◌, ℕ, ◌<◌, Some}
use Rattle.vlt_meaning.specs.World.{Object, above}
use Rattle.vlt_sound_worlds.specs.Look.{IsLive}

pub record IsLinked (os : ℕ → Object) (rank : ℕ → ℕ) (n p : ℕ) : Type 0 where
  pub live : IsLive os p
  pub lower : rank n < rank p

pub record IsRanked (os : ℕ → Object) : Type 0 where
  pub rank : ℕ → ℕ
  pub top : ℕ
  pub under : (n : ℕ) → rank n < top
  pub linked : (n p : ℕ) → above (os n).owner ≡ Some p → IsLinked os rank n p
