use Rattle.std.proofs.Common.{◌≡◌, map, drop}
use Rattle.serde_json.specs.View.{items_of}
use Rattle.cert_rows.specs.Rows.{arm}
use Rattle.cert_values.specs.Heads.{arm_head}
use Rattle.cert_values.specs.Laid.{items_laid}
use Rattle.cert_values.proofs.blocks.put_each_arm.Given as goal

-- what is left, after what was written, is the whole
abbrev pub invariant-loop-item : goal.invariant-loop-item
invariant-loop-item l =
    items_laid (items_of (map arm.data_of (map arm_head (drop l.item-index l.arms)))) l.out ≡ items_laid (items_of (map arm.data_of (map arm_head l.arms))) l.initial.out
