use Rattle.std.proofs.Common.{◌≡◌, map, option_map, ◌++◌, drop}
use Rattle.serde_json.specs.View.{view}
use Rattle.cert_rows.specs.Parts.{each_in}
use Rattle.cert_rows.specs.Values as s
use Rattle.vlt_core.specs.View.{key_of}
use Rattle.cert_read_decls.proofs.lists.each_key_decls.Given as goal

abbrev pub invariant-loop-v : goal.invariant-loop-v
invariant-loop-v l = each_in s.key_decl.of_data (map view l.items) ≡ option_map (λ rest. map key_of l.out ++ rest) (each_in s.key_decl.of_data (map view (drop l.v-index l.items)))
