-- Programs whose states have numbers below 32, as all programs of the code do that keep the limits.
use Rattle.std.specs.Prelude.{ℕ, ◌<◌, IsTrue}
use Rattle.vlt_core.specs.Core.{States}

-- no state of the set has a number of 32 or more
pub record IsNarrow (states : States) : Type 0 where
  pub below : (s : ℕ) → IsTrue (states s) → s < 32
