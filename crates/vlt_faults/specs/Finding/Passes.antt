-- What one row leaves.
use Rattle.std.specs.Prelude.{◌↔◌}
use Rattle.vlt_core.specs.Core.{Tok}
use Rattle.vlt_core.specs.Maps.{Row}
use Rattle.vlt_core.specs.Found.{One, image}
use Rattle.vlt_core_laws.specs.Sweep.{Many, In}

pub record IsMoved (t : Tok) (r : Row) (m m' : Many) : Type 0 where
  pub each : (o : One) → In m' o ↔ image t r (In m) o
