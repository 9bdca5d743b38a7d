use Rattle.std.proofs.Common.{◌<◌, refl, subst, arith}
use Rattle.vlt_keyset.specs.Held.{map_of}
use Rattle.vlt_flow.proofs.OfNotes.Pushing.{IsGrown, keys_below, keys_first, keys_more, keys_over}
use Rattle.vlt_flow.proofs.OfNotes.Ordering.{key_grown, keys_done}
use Rattle.vlt_flow.proofs.notes.statuses.push_keys.Goals as goal

pub loop-key-init : goal.loop-key-init
loop-key-init c = (keys_first (map_of c.args.held.now) _, λ l. l)

pub loop-key-preserved : goal.loop-key-preserved
loop-key-preserved c =
    let less : c.loop-key.key < c.args.counts.keys = omega (arith, c.loop-key-test.true) in (
      keys_more (map_of c.args.held.now) _ _ _ _ c.loop-key.key c.status.result refl c.status.ensures c.loop-key.invariant.0 c.in_ok-push.ensures.pushed,
      λ l. key_grown _ _ c.loop-key.key _ c.status.result _ _ refl less c.in_ok-push.ensures.list (c.loop-key.invariant.1 l),
    )

pub returns-then-not-has-clause-order : goal.returns-then-not-has-clause-order
returns-then-not-has-clause-order c = λ l. keys_done _ _ _ _ (c.loop-key.invariant.1 l)

pub returns-clause-status : goal.returns-clause-status
returns-clause-status c = keys_over (map_of c.args.held.now) _ _ _ _ c.requires (subst (λ n. IsGrown c.args.pairs.now c.loop-key.pairs (keys_below (map_of c.args.held.now) n)) (omega (arith, c.loop-key-test.false)) c.loop-key.invariant.0)

pub returns-clause-order : goal.returns-clause-order
returns-clause-order c = λ l. keys_done _ _ _ _ (c.loop-key.invariant.1 l)
