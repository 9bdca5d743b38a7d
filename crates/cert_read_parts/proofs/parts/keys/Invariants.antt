use Rattle.std.proofs.Common.{◌≡◌, map, option_map, ◌++◌, drop}
use Rattle.serde_json.specs.View.{view}
use Rattle.cert_rows.specs.Parts.{each_in}
use Rattle.cert_rows.specs.Values.{id}
use Rattle.vlt_core.specs.View.{keys_of}
use Rattle.cert_read_parts.proofs.parts.keys.Given as goal

abbrev pub invariant-loop-v : goal.invariant-loop-v
invariant-loop-v l = each_in id.of_data (map view l.items) ≡ option_map (λ rest. keys_of l.out ++ rest) (each_in id.of_data (map view (drop l.v-index l.items)))
