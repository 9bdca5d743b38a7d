use Rattle.std.proofs.Common.{◌≡◌, map, option_map, ◌++◌, drop}
use Rattle.serde_json.specs.View.{view}
use Rattle.cert_rows.specs.Parts.{each_in}
use Rattle.cert_rows.specs.Values as s
use Rattle.vlt_core.specs.View.{field_of}
use Rattle.cert_read_decls.proofs.lists.each_fields.Given as goal

abbrev pub invariant-loop-v : goal.invariant-loop-v
invariant-loop-v l = each_in s.field.of_data (map view l.items) ≡ option_map (λ rest. map field_of l.out ++ rest) (each_in s.field.of_data (map view (drop l.v-index l.items)))
