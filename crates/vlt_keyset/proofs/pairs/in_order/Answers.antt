use Rattle.std.proofs.Common.{refl, arith}
use Rattle.vlt_keyset.proofs.Ordered.{order_back, next_is, next_none, split_at, present_at, before_at, not_true}
use Rattle.vlt_keyset.proofs.pairs.in_order.Goals as goal
use Rattle.vlt_keyset.proofs.pairs.in_order.Goals.{then-j-gt0+else-not-is_before, else-j-gt0}

pub loop-j-preserved : goal.loop-j-preserved
loop-j-preserved c = elim c.if-j-gt0.branch [
  | then-j-gt0+else-not-is_before w ↦
      order_back c.args.pairs.now c.loop-j.j c.index-pairs-i.result (omega arith) c.index-pairs-i.is (c.is_present.ensures.0 c.if-not-is_present.false)
      (next_is c.args.pairs.now _ c.index-pairs-i.result w.index-pairs-i-then-j-gt0.result (split_at c.args.pairs.now _ _ (omega arith) w.index-pairs-i-then-j-gt0.is) (w.is_before.ensures.0 w.if-not-is_before.false)) c.loop-j.invariant
  | else-j-gt0 w ↦
      order_back c.args.pairs.now c.loop-j.j c.index-pairs-i.result (omega arith) c.index-pairs-i.is (c.is_present.ensures.0 c.if-not-is_present.false)
      (next_none c.args.pairs.now _ c.index-pairs-i.result (omega arith)) c.loop-j.invariant
]

pub returns-then-not-is_present : goal.returns-then-not-is_present
returns-then-not-is_present c = (
  λ t. absurd (not_true _ refl t),
  λ o. c.if-not-is_present.ensures.1 (present_at _ _ _ o (split_at c.args.pairs.now _ _ (omega arith) c.index-pairs-i.is)),
)

pub returns-then-not-is_before : goal.returns-then-not-is_before
returns-then-not-is_before c = (
  λ t. absurd (not_true _ refl t),
  λ o. c.if-not-is_before.ensures.1 (before_at _ _ _ _ o (split_at c.args.pairs.now _ _ (omega arith) c.index-pairs-i.is) (split_at c.args.pairs.now _ _ (omega arith) c.index-pairs-i-then-j-gt0.is)),
)
