-- What heads that break no rule give.
use Rattle.std.specs.Prelude.{◌≡◌, ℕ, true, ◌++◌, List, Some, slice_get}
use Rattle.vlt_core.specs.Core.{tracked, Func, Program}
use Rattle.vlt_core.specs.KindedHeads.{has, new_keys, keys_of_parameters}

-- a `new` key is the key of the result, a reference, whose other keys are the parameters' or new
pub record HasNewResult (f : Func) : Type 0 where
  pub each : (k : ℕ) → has (new_keys f) k ≡ true →
      (t : ℕ) × (args : List ℕ) × (f.result ≡ Some (tracked k t args)) ×
      ((j : ℕ) → has args j ≡ true → has (keys_of_parameters f ++ new_keys f) j ≡ true)

abbrev pub HaveNewResults : Program → Type 0
HaveNewResults p = (g : ℕ) (f : Func) → slice_get p.fns g ≡ Some f → HasNewResult f
