-- A row that a path took; private contracts alone cite this.
use Rattle.std.specs.Prelude.{◌≡◌, [], ◌∷◌}
use Rattle.vlt_core.specs.Maps.{Row}
use Rattle.vlt_paths.specs.Along.{IsPast}
use Rattle.vlt_paths.specs.declared.passing.Passing.{Passing}

pub record IsTaken (r : Row) (v u : Passing) : Type 0 where
  pub hunt : u.hunt ≡ v.hunt
  pub at : u.at ≡ v.at
  pub past : IsPast v.hunt v.at (r ∷ []) v.point u.point
