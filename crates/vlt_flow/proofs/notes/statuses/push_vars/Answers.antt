use Rattle.std.proofs.Common.{◌<◌, refl, subst, arith}
use Rattle.vlt_keyset.specs.Held.{map_of}
use Rattle.vlt_flow.proofs.OfNotes.Pushing.{IsGrown, vars_below, vars_first, vars_more, vars_over}
use Rattle.vlt_flow.proofs.OfNotes.Ordering.{var_grown}
use Rattle.vlt_flow.proofs.notes.statuses.push_vars.Goals as goal

pub loop-var-init : goal.loop-var-init
loop-var-init c = (vars_first (map_of c.args.held.now) _, λ l. l)

pub loop-var-preserved : goal.loop-var-preserved
loop-var-preserved c =
    let less : c.loop-var.var < c.args.counts.vars = omega (arith, c.loop-var-test.true) in (
      vars_more (map_of c.args.held.now) _ _ _ _ c.loop-var.var c.status.result refl c.status.ensures c.loop-var.invariant.0 c.in_ok-push.ensures.pushed,
      λ l. var_grown _ _ c.loop-var.var _ c.status.result _ _ refl less c.in_ok-push.ensures.list (c.loop-var.invariant.1 l),
    )

pub returns-clause-status : goal.returns-clause-status
returns-clause-status c = vars_over (map_of c.args.held.now) _ _ _ _ c.requires (subst (λ n. IsGrown c.args.pairs.now c.loop-var.pairs (vars_below (map_of c.args.held.now) n)) (omega (arith, c.loop-var-test.false)) c.loop-var.invariant.0)
