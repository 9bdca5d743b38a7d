use Rattle.std.proofs.Common.{◌≡◌, map, option_map, ◌++◌, drop}
use Rattle.serde_json.specs.View.{view}
use Rattle.cert_rows.specs.Parts.{each_in, minus_or}
use Rattle.cert_rows.specs.Values.{id}
use Rattle.vlt_core.specs.View.{header_of}
use Rattle.cert_read_decls.proofs.lists.each_header.Given as goal

abbrev pub invariant-loop-v : goal.invariant-loop-v
invariant-loop-v l = each_in (minus_or id).of_data (map view l.items) ≡ option_map (λ rest. header_of l.out ++ rest) (each_in (minus_or id).of_data (map view (drop l.v-index l.items)))
