use Rattle.std.proofs.Common.{◌∙◌}
use Rattle.cert_kinds_types.proofs.Smallest.{each_item}
use Rattle.vlt_core.specs.View.{ty_of}
use Rattle.cert_kinds_heads.proofs.externals.payloads_broken.Goals as goal

pub loop-ty-preserved : goal.loop-ty-preserved
loop-ty-preserved c =
    rw (c.lesser-found.ensures, c.payload_broken.ensures)
    (c.loop-ty.invariant ∙ each_item _ ty_of c.loop-ty.found c.args.payload.now c.loop-ty.ty-index c.ty-item.result c.ty-item.is c.loop-ty-test.true)
