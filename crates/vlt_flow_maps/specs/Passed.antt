-- What rows make of a map.
use Rattle.std.specs.Prelude.{◌≡◌, List, Option, Some, None, Result, Err}
use Rattle.vlt_core.specs.Maps.{Row, HeldMap, CanPass, map_after}
use Rattle.vlt_keyset.specs.Held.{Statuses, map_of}
use Rattle.vlt_flow_maps.specs.declared.errors.Halt.{Halt}
use Rattle.vlt_flow_maps.specs.declared.errors.Halt.TheVariants as halt

-- a fact for the halt that refuses
pub record IfHalted {A : Type 0} (r : Result A Halt) (p : Type 0) : Type 0 where
  pub holds : r ≡ Err halt.Refused → p

-- the rows were passed
pub record Passes (rs : List Row) (old new : HeldMap) : Type 0 where
  pub can : CanPass rs old
  pub after : new ≡ map_after rs old

-- the rows at the end of a part, if it can be passed
abbrev pub IsLeft : List Row → Option Statuses → Option Statuses → Type 0
IsLeft rs None r = r ≡ None
IsLeft rs (Some h) None = ⊥
IsLeft rs (Some h) (Some k) = Passes rs (map_of h) (map_of k)

abbrev pub NoLeft : List Row → Option Statuses → Type 0
NoLeft rs None = ⊥
NoLeft rs (Some h) = CanPass rs (map_of h) → ⊥
