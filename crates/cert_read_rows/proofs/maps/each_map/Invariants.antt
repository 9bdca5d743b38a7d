use Rattle.std.proofs.Common.{◌≡◌, map, option_map, ◌++◌, drop}
use Rattle.serde_json.specs.View.{view}
use Rattle.cert_rows.specs.Parts.{each_in}
use Rattle.cert_rows.specs.Values.{map_part}
use Rattle.cert_read_parts.specs.Maps.{maps_of}
use Rattle.cert_read_rows.proofs.maps.each_map.Given as goal

abbrev pub invariant-loop-v : goal.invariant-loop-v
invariant-loop-v l = each_in map_part.of_data (map view l.items) ≡ option_map (λ rest. maps_of l.out ++ rest) (each_in map_part.of_data (map view (drop l.v-index l.items)))
