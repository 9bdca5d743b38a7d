use Rattle.std.proofs.Common.{arith, sym, ◌∙◌}
use Rattle.vlt_keyset.proofs.Ordered.{split_at, other_tok, equal_tok}
use Rattle.vlt_keyset.proofs.Places.{at_hit, at_miss, at_end}
use Rattle.vlt_keyset.proofs.apart.given_at.Goals as goal

pub returns-then-is_same-clause-status : goal.returns-then-is_same-clause-status
returns-then-is_same-clause-status c =
    (at_hit _ _ _ c.requires _ c.if-at-pairs.true (split_at _ _ _ c.if-at-pairs.true c.index-pairs-at.is) (equal_tok _ _ (sym c.is_same.ensures ∙ c.if-is_same.true))).0

pub returns-then-is_same-clause-past : goal.returns-then-is_same-clause-past
returns-then-is_same-clause-past c =
    (at_hit _ _ _ c.requires _ c.if-at-pairs.true (split_at _ _ _ c.if-at-pairs.true c.index-pairs-at.is) (equal_tok _ _ (sym c.is_same.ensures ∙ c.if-is_same.true))).1

pub returns-else-is_same-clause-status : goal.returns-else-is_same-clause-status
returns-else-is_same-clause-status c =
    (at_miss _ _ _ c.requires _ (split_at _ _ _ c.if-at-pairs.true c.index-pairs-at.is) (other_tok _ _ _ c.is_same.ensures c.if-is_same.false)).0

pub returns-else-is_same-clause-past : goal.returns-else-is_same-clause-past
returns-else-is_same-clause-past c =
    (at_miss _ _ _ c.requires _ (split_at _ _ _ c.if-at-pairs.true c.index-pairs-at.is) (other_tok _ _ _ c.is_same.ensures c.if-is_same.false)).1

pub returns-else-at-pairs-clause-status : goal.returns-else-at-pairs-clause-status
returns-else-at-pairs-clause-status c = (at_end _ _ _ c.requires (omega (arith, c.if-at-pairs.false))).0

pub returns-else-at-pairs-clause-past : goal.returns-else-at-pairs-clause-past
returns-else-at-pairs-clause-past c = (at_end _ _ _ c.requires (omega (arith, c.if-at-pairs.false))).1
