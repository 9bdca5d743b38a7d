use Rattle.std.proofs.Common.{◌∙◌}
use Rattle.cert_kinds_types.proofs.Smallest.{each_item}
use Rattle.vlt_core.specs.View.{case_key_of}
use Rattle.cert_kinds_heads.proofs.externals.case_keys_broken.Goals as goal

pub loop-key-preserved : goal.loop-key-preserved
loop-key-preserved c =
    rw (c.lesser-found.ensures, c.case_key_broken.ensures)
    (c.loop-key.invariant ∙ each_item _ case_key_of c.loop-key.found c.args.keys.now c.loop-key.key-index c.key-item.result c.key-item.is c.loop-key-test.true)
