use Rattle.std.proofs.Common.{◌≡◌, map, option_map, ◌++◌, drop}
use Rattle.serde_json.specs.View.{view}
use Rattle.cert_rows.specs.Parts.{each_in, text}
use Rattle.cert_read_decls.proofs.lists.each_texts.Given as goal

abbrev pub invariant-loop-v : goal.invariant-loop-v
invariant-loop-v l = each_in text.of_data (map view l.items) ≡ option_map (λ rest. map (λ n. n) l.out ++ rest) (each_in text.of_data (map view (drop l.v-index l.items)))
