use Rattle.std.proofs.Common.{◌∙◌}
use Rattle.vlt_core.specs.View.{var_of}
use Rattle.cert_kinds_heads.specs.Summaries.{summary_of}
use Rattle.cert_kinds_heads.proofs.Summaries.{summary_next}
use Rattle.cert_kinds_heads.proofs.given.locals_give.Goals as goal

pub loop-d-preserved : goal.loop-d-preserved
loop-d-preserved c =
    rw (c.both-found.ensures, c.own_gives.ensures)
    (c.loop-d.invariant ∙ summary_next c.args.k _ var_of (summary_of c.loop-d.found) c.args.vars.now c.loop-d.d-index c.d-item.result c.d-item.is c.loop-d-test.true)
