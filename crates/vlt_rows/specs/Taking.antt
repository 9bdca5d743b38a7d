-- Rows that are taken one after another, by whatever takes them.
use Rattle.std.specs.Prelude.{◌≡◌, List, [], ◌∷◌, ◌⊎◌, Result, OnOk, IfErr}
use Rattle.vlt_core.specs.Maps.{Row}
use Rattle.vlt_rows.specs.declared.sink.RowError.{RowError}

abbrev pub Takes : Type 0 → Type 1
Takes V = Row → V → V → Type 0

abbrev pub Stops : Type 0 → Type 1
Stops V = Row → V → RowError → Type 0

-- all rows are taken
abbrev pub TakesAll : {V : Type 0} → Takes V → List Row → V → V → Type 0
TakesAll takes [] v w = w ≡ v
TakesAll {V} takes (r ∷ rs) v w = (u : V) × takes r v u × TakesAll takes rs u w

-- the rows before one are taken, and that one isn't
abbrev pub StopsIn : {V : Type 0} → Takes V → Stops V → List Row → V → RowError → Type 0
StopsIn takes stops [] v e = ⊥
StopsIn {V} takes stops (r ∷ rs) v e = stops r v e ⊎ ((u : V) × takes r v u × StopsIn takes stops rs u e)

-- The rows were all taken, from one value to the other; or not all: one stops.
pub record TookOrStopped {V : Type 0} (takes : Takes V) (stops : Stops V) (rs : List Row) (v w : V) (r : Result (Unit {0}) RowError) : Type 0 where
  pub took : OnOk r (TakesAll takes rs v w)
  pub stopped : IfErr r (StopsIn takes stops rs v)
