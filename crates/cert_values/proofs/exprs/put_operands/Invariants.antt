use Rattle.std.proofs.Common.{◌≡◌, map, drop}
use Rattle.serde_json.specs.View.{items_of}
use Rattle.cert_rows.specs.Expressions.{operand}
use Rattle.vlt_core.specs.View.{operand_of}
use Rattle.cert_values.specs.Laid.{items_laid}
use Rattle.cert_values.proofs.exprs.put_operands.Given as goal

-- what is left, after what was written, is the whole
abbrev pub invariant-loop-item : goal.invariant-loop-item
invariant-loop-item l =
    items_laid (items_of (map operand.data_of (map operand_of (drop l.item-index l.operands)))) l.out ≡ items_laid (items_of (map operand.data_of (map operand_of l.operands))) l.initial.out
