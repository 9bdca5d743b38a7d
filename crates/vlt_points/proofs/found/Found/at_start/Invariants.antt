use Rattle.std.proofs.Common.{◌≡◌, ◌↔◌, ◌<◌, length}
use Rattle.vlt_core.specs.Core.{Tok}
use Rattle.vlt_core.specs.Found.{One, Has}
use Rattle.vlt_core_laws.specs.Sweep.{In}
use Rattle.vlt_keyset.specs.Held.{map_of}
use Rattle.vlt_points.specs.Founds.{place_of, found}
use Rattle.vlt_points.proofs.found.Found.at_start.Given as goal

abbrev pub invariant-loop-place : goal.invariant-loop-place
invariant-loop-place l = record {
  long : length l.ones.items ≡ l.place;
  each : (t : Tok) → place_of t < l.place → (o : One) → In (found l.ones.items t) o ↔ Has (map_of l.start t) o;
}
