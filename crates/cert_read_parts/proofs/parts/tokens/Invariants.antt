use Rattle.std.proofs.Common.{◌≡◌, map, option_map, ◌++◌, drop}
use Rattle.serde_json.specs.View.{view}
use Rattle.cert_rows.specs.Parts.{each_in}
use Rattle.cert_rows.specs.Values.{token}
use Rattle.vlt_core.specs.HeldView.{toks_of}
use Rattle.cert_read_parts.proofs.parts.tokens.Given as goal

abbrev pub invariant-loop-v : goal.invariant-loop-v
invariant-loop-v l = each_in token.of_data (map view l.items) ≡ option_map (λ rest. toks_of l.out ++ rest) (each_in token.of_data (map view (drop l.v-index l.items)))
