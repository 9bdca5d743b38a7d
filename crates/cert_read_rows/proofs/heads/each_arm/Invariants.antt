use Rattle.std.proofs.Common.{◌≡◌, map, option_map, ◌++◌, drop}
use Rattle.serde_json.specs.View.{view}
use Rattle.cert_rows.specs.Parts.{each_in}
use Rattle.cert_rows.specs.Rows.{arm}
use Rattle.cert_read_rows.specs.Heads.{arm_of}
use Rattle.cert_read_rows.proofs.heads.each_arm.Given as goal

abbrev pub invariant-loop-v : goal.invariant-loop-v
invariant-loop-v l = each_in arm.of_data (map view l.items) ≡ option_map (λ rest. map arm_of l.out ++ rest) (each_in arm.of_data (map view (drop l.v-index l.items)))
