use Rattle.vlt_keyset.proofs.Sets.{held_union, lent_union, held_nearer, lent_nearer}
use Rattle.vlt_keyset.proofs.statuses.union.Goals as goal

pub returns-in-Held-Held-clause-union : goal.returns-in-Held-Held-clause-union
returns-in-Held-Held-clause-union c = held_union _ _ _ _ _ c.in-Held-Held.is-0 c.in-Held-Held.is-1 c.unite.ensures.value

pub returns-in-Lent-Lent-clause-union : goal.returns-in-Lent-Lent-clause-union
returns-in-Lent-Lent-clause-union c = lent_union _ _ _ _ _ c.in-Lent-Lent.is-0 c.in-Lent-Lent.is-1 c.unite-in-Lent-Lent.ensures.value

pub returns-in-Held-Held-clause-nearer : goal.returns-in-Held-Held-clause-nearer
returns-in-Held-Held-clause-nearer c = held_nearer _ _ _ _ _ c.in-Held-Held.is-0 c.in-Held-Held.is-1 c.unite.ensures.value

pub returns-in-Lent-Lent-clause-nearer : goal.returns-in-Lent-Lent-clause-nearer
returns-in-Lent-Lent-clause-nearer c = lent_nearer _ _ _ _ _ c.in-Lent-Lent.is-0 c.in-Lent-Lent.is-1 c.unite-in-Lent-Lent.ensures.value
