-- The maps that a walk keeps, by statement.
use Rattle.std.specs.Prelude.{◌≡◌, ◌<◌, ℕ, List, Option, Some, None, IsSome, ◌⊎◌, slice_index_or}
use Rattle.vlt_core.specs.Maps.{HeldMap, IsBelow}
use Rattle.vlt_keyset.specs.Held.{Statuses, map_of, gap}

-- the maps kept so far, by statement: at the heads of loops, and after loops and choices
pub record Marks : Type 0 where
  pub around : List (Option Statuses)
  pub following : List (Option Statuses)

abbrev pub slot : List (Option Statuses) → ℕ → Option Statuses
slot xs i = slice_index_or xs i None

-- a map lies above what came to a point, if anything came
abbrev pub Above : Option Statuses → HeldMap → Type 0
Above None m = Unit {0}
Above (Some h) m = IsBelow (map_of h) m

-- nothing came before; or the map is the same, or above and nearer to the largest
abbrev pub Grown : Option Statuses → Option Statuses → Type 0
Grown None o = Unit {0}
Grown (Some h) None = ⊥
Grown (Some h) (Some k) = IsBelow (map_of h) (map_of k) × ((k ≡ h) ⊎ (gap k < gap h))

-- what came is united with what was there
pub record IsInto (o : Option Statuses) (h : Statuses) (new : Option Statuses) : Type 0 where
  pub some : IsSome new
  pub both : (m : HeldMap) → Above new m → Above o m × IsBelow (map_of h) m
  pub least : (m : HeldMap) → Above o m → IsBelow (map_of h) m → Above new m
  pub grown : Grown o new
