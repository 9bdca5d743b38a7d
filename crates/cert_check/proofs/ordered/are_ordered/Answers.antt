use Rattle.std.proofs.Common.{refl, arith}
use Rattle.cert_check.proofs.Causes.{not_true}
use Rattle.cert_check.proofs.Lookups.{order_back, order_here, order_next, next_is, next_none, split_at}
use Rattle.cert_check.proofs.ordered.are_ordered.Goals as goal
use Rattle.cert_check.proofs.ordered.are_ordered.Goals.{then-j-gt0+else-not-is_before, else-j-gt0}

pub loop-j-preserved : goal.loop-j-preserved
loop-j-preserved c = elim c.if-j-gt0.branch [
  | then-j-gt0+else-not-is_before w ↦
      order_back c.args.instance c.args.notes.now c.loop-j.j c.index-notes-i.result (omega arith) c.index-notes-i.is (c.is_ordered.ensures.0 c.if-not-is_ordered.false)
      (next_is c.args.instance c.args.notes.now _ c.index-notes-i.result w.index-notes-i-then-j-gt0.result (split_at c.args.notes.now _ _ (omega arith) w.index-notes-i-then-j-gt0.is) (w.is_before.ensures.0 w.if-not-is_before.false)) c.loop-j.invariant
  | else-j-gt0 w ↦
      order_back c.args.instance c.args.notes.now c.loop-j.j c.index-notes-i.result (omega arith) c.index-notes-i.is (c.is_ordered.ensures.0 c.if-not-is_ordered.false)
      (next_none c.args.instance c.args.notes.now _ c.index-notes-i.result (omega arith)) c.loop-j.invariant
]

pub returns-then-not-is_ordered : goal.returns-then-not-is_ordered
returns-then-not-is_ordered c = (
  λ t. absurd (not_true _ refl t),
  λ o. c.if-not-is_ordered.ensures.1 (order_here c.args.instance c.args.notes.now _ _ (omega arith) c.index-notes-i.is o).0,
)

pub returns-then-not-is_before : goal.returns-then-not-is_before
returns-then-not-is_before c = (
  λ t. absurd (not_true _ refl t),
  λ o. c.if-not-is_before.ensures.1 (order_next c.args.instance c.args.notes.now _ _ _ (omega arith) c.index-notes-i.is c.index-notes-i-then-j-gt0.is o),
)
