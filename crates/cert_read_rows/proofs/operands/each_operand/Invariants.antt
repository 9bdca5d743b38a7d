use Rattle.std.proofs.Common.{◌≡◌, map, option_map, ◌++◌, drop}
use Rattle.serde_json.specs.View.{view}
use Rattle.vlt_core.specs.View.{operand_of}
use Rattle.cert_rows.specs.Parts.{each_in}
use Rattle.cert_rows.specs.Expressions.{operand}
use Rattle.cert_read_rows.proofs.operands.each_operand.Given as goal

abbrev pub invariant-loop-v : goal.invariant-loop-v
invariant-loop-v l = each_in operand.of_data (map view l.items) ≡ option_map (λ rest. map operand_of l.out ++ rest) (each_in operand.of_data (map view (drop l.v-index l.items)))
