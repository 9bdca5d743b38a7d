use Rattle.std.proofs.Common.{sym, ◌∙◌}
use Rattle.vlt_core.proofs.Orders.{one_step, up_alone}
use Rattle.vlt_core.proofs.lookups.leading_up.Goals as goal

pub loop-n-init : goal.loop-n-init
loop-n-init c = λ s below. c.only-set.ensures s ∙ sym (up_alone _ s c.args.state)

pub loop-n-preserved : goal.loop-n-preserved
loop-n-preserved c = λ s below.
    one_step c.args.links.now c.loop-n.set c.with_lower-set.result c.loop-n.n c.args.state s c.loop-n.invariant (c.with_lower-set.ensures s below)
