use Rattle.std.proofs.Common.{◌∙◌}
use Rattle.cert_kinds_types.proofs.Smallest.{each_item_of}
use Rattle.vlt_core.specs.View.{var_of}
use Rattle.cert_kinds_heads.proofs.externals.parameters_broken.Goals as goal

pub loop-d-preserved : goal.loop-d-preserved
loop-d-preserved c =
    rw (c.lesser-found.ensures, c.parameter_broken.ensures)
    (c.loop-d.invariant ∙ each_item_of _ (λ d. d.ty) var_of c.loop-d.found c.args.vars.now c.loop-d.d-index c.d-item.result c.d-item.is c.loop-d-test.true)
