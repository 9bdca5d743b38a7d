use Rattle.std.proofs.Common.{length, ap, arith}
use Rattle.vlt_keyset.specs.Held.{map_of}
use Rattle.vlt_keyset.specs.Pairs.{map_of_pairs}
use Rattle.vlt_keyset.proofs.Ordered.{split_at, not_true, yes_true}
use Rattle.vlt_keyset.proofs.Places.{at_first, below_first, past_next, below_next, next_key, key_left, keys_at, keys_below, no_key_here}
use Rattle.vlt_keyset.proofs.apart.test_keys.Goals as goal

pub loop-k-init : goal.loop-k-init
loop-k-init c = (at_first _ c.requires, below_first (map_of c.args.held.now) (map_of_pairs c.args.pairs.now))

pub loop-k-preserved : goal.loop-k-preserved
loop-k-preserved c =
    (past_next _ _ _ _ (next_key _) c.in_ok-at.ensures.past, below_next (map_of c.args.held.now) (map_of_pairs c.args.pairs.now) _ _ (next_key _) c.loop-k.invariant.1 c.in_ok-at.ensures.below)

pub returns-then-is_key-clause-apart : goal.returns-then-is_key-clause-apart
returns-then-is_key-clause-apart c =
    key_left _ _ _ _ _ _ (omega (arith, c.loop-k-test.false, ap (λ h. length h.keys) c.held.view_is)) c.loop-k.invariant.0 c.loop-k.invariant.1 (split_at _ _ _ c.if-at-pairs.true c.index-pairs-at.is) (c.is_key.ensures.0 (yes_true _ c.if-is_key.true))
    c.missing.ensures.tok c.missing.ensures.found c.missing.ensures.wanted

pub returns-else-is_key-clause-below : goal.returns-else-is_key-clause-below
returns-else-is_key-clause-below c =
    keys_below _ _ _ _ (omega (arith, c.loop-k-test.false, ap (λ h. length h.keys) c.held.view_is)) c.loop-k.invariant.0 c.loop-k.invariant.1
    (no_key_here c.args.pairs.now c.loop-k.at _ c.loop-k.invariant.0.order (split_at _ _ _ c.if-at-pairs.true c.index-pairs-at.is) (λ e. not_true _ c.if-is_key.false (c.is_key.ensures.1 e)))

pub returns-else-is_key-clause-at : goal.returns-else-is_key-clause-at
returns-else-is_key-clause-at c =
    keys_at _ _ _ c.loop-k.invariant.0
    (no_key_here c.args.pairs.now c.loop-k.at _ c.loop-k.invariant.0.order (split_at _ _ _ c.if-at-pairs.true c.index-pairs-at.is) (λ e. not_true _ c.if-is_key.false (c.is_key.ensures.1 e)))
