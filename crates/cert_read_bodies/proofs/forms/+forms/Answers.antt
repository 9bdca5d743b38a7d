use Rattle.cert_read_bodies.proofs.Made.{finished, finished_arms}
use Rattle.cert_read_bodies.proofs.forms.+forms.Goals as goal

pub arms-returns-clause-arms : goal.arms-returns-clause-arms
arms-returns-clause-arms t c = (finished_arms c.args.drafts _ c.loop-x.out c.loop-x.left c.loop-x.notes c.loop-x.invariant c.in_default.ensures.0).0

pub stmts-returns-clause-stmts : goal.stmts-returns-clause-stmts
stmts-returns-clause-stmts t c = (finished c.args.drafts _ c.loop-x.out c.loop-x.left c.loop-x.notes c.loop-x.invariant c.in_default.ensures.0).0
