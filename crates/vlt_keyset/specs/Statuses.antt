-- Statuses of the code, and their unions; private contracts alone cite this.
use Rattle.std.specs.Prelude.{◌≡◌, ℕ, ◌-◌, ◌^◌, ◌<◌, ◌||◌, List, sum_by}
use Rattle.vlt_base.specs.declared.states.StateSet.{StateSet}
use Rattle.vlt_base.specs.States.{has_state}
use Rattle.vlt_core.specs.Maps as maps
use Rattle.vlt_core.specs.Maps.{IsStatusBelow}
use Rattle.vlt_core.specs.HeldView.{status_of}
use Rattle.vlt_core.specs.declared.held.Status.{Status}
use Rattle.vlt_core.specs.declared.held.Status.TheVariants as status

-- how far a status is from the largest of its kind
abbrev pub gap_of : Status → ℕ
gap_of (status.Held m) = 2 ^ 32 - m.mask
gap_of (status.Lent m) = 2 ^ 32 - m.mask
gap_of _ = 0

abbrev pub table_gap : List Status → ℕ
table_gap xs = sum_by gap_of xs

-- the least status above both
pub record IsUnion (a b c : maps.Status) : Type 0 where
  pub left : IsStatusBelow a c
  pub right : IsStatusBelow b c
  pub least : (d : maps.Status) → IsStatusBelow a d → IsStatusBelow b d → IsStatusBelow c d

pub record IsUnited (s t u : StateSet) : Type 0 where
  pub each : (i : ℕ) → has_state u i ≡ (has_state s i || has_state t i)

-- the union is nearer to the largest, unless it adds nothing
pub record IsNearer (a b c : Status) : Type 0 where
  pub nearer : (IsStatusBelow (status_of b) (status_of a) → ⊥) → gap_of c < gap_of a
