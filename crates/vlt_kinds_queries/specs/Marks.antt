-- Marks for the types from which a part is reached that no release may reach.
use Rattle.std.specs.Prelude.{ℕ, ◌≡◌, Bool, false, List, length, unwrap_or, slice_get}
use Rattle.vlt_core.specs.Core.{Program}
use Rattle.vlt_core.specs.Types.{holds_undroppable}

abbrev pub Marks : Type 0
Marks = List Bool

abbrev pub is_marked : Marks → (type : ℕ) → Bool
is_marked marks t = unwrap_or (slice_get marks t) false

-- a type is marked where it holds such a part fast
pub record AreMarks (p : Program) (marks : Marks) : Type 0 where
  pub each : (type : ℕ) → is_marked marks type ≡ holds_undroppable p (length p.types) type
