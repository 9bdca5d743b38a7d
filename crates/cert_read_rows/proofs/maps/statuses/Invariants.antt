use Rattle.std.proofs.Common.{◌≡◌, map, option_map, ◌++◌, drop}
use Rattle.serde_json.specs.View.{view}
use Rattle.cert_rows.specs.Parts.{each_in}
use Rattle.cert_rows.specs.Values.{token_status}
use Rattle.cert_read_parts.specs.Maps.{pairs_of}
use Rattle.cert_read_rows.proofs.maps.statuses.Given as goal

abbrev pub invariant-loop-v : goal.invariant-loop-v
invariant-loop-v l = each_in token_status.of_data (map view l.items) ≡ option_map (λ rest. pairs_of l.out ++ rest) (each_in token_status.of_data (map view (drop l.v-index l.items)))
