use Rattle.std.proofs.Common.{arith}
use Rattle.vlt_keyset.proofs.Ordered.{yes_true, not_true}
use Rattle.vlt_keyset.proofs.Putting.{put_first, put_more, put_all, no_place}
use Rattle.vlt_keyset.proofs.Held.of_pairs.Goals as goal

pub loop-j-init : goal.loop-j-init
loop-j-init c = put_first _ _ _ _ c.in_ok-held.ensures.absent c.in_ok-held.ensures.keys c.in_ok-held.ensures.vars

pub loop-j-preserved : goal.loop-j-preserved
loop-j-preserved c =
    put_more _ _ _ _ _ _ _ (omega arith) c.index-pairs-count.is (c.has.ensures.0 (yes_true _ c.if-not-has.false)) c.put.ensures c.loop-j.invariant

pub returns-then-not-has-clause-none : goal.returns-then-not-has-clause-none
returns-then-not-has-clause-none c =
    no_place _ _ _ _ _ _ (omega arith) c.index-pairs-count.is (λ p. not_true _ c.if-not-has.true (c.has.ensures.1 p)) c.loop-j.invariant

pub returns-clause-map : goal.returns-clause-map
returns-clause-map c = put_all _ _ _ _ _ (omega (arith, c.loop-j-test.false)) c.loop-j.invariant

pub returns-clause-keys : goal.returns-clause-keys
returns-clause-keys c = c.loop-j.invariant.keys

pub returns-clause-vars : goal.returns-clause-vars
returns-clause-vars c = c.loop-j.invariant.vars
