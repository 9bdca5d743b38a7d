use Rattle.std.proofs.Common.{◌≡◌, map, option_map, ◌++◌, drop}
use Rattle.serde_json.specs.View.{view}
use Rattle.cert_rows.specs.Parts.{each_in}
use Rattle.cert_rows.specs.Values as s
use Rattle.vlt_core.specs.View.{case_key_of}
use Rattle.cert_read_decls.proofs.lists.each_case_keys.Given as goal

abbrev pub invariant-loop-v : goal.invariant-loop-v
invariant-loop-v l = each_in s.case_key.of_data (map view l.items) ≡ option_map (λ rest. map case_key_of l.out ++ rest) (each_in s.case_key.of_data (map view (drop l.v-index l.items)))
