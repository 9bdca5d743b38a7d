use Rattle.vlt_keyset.proofs.Sets.{held_below, lent_below}
use Rattle.vlt_keyset.proofs.statuses.is_below.Goals as goal

pub returns-in-Held-Held : goal.returns-in-Held-Held
returns-in-Held-Held c = held_below _ _ _ _ _ c.in-Held-Held.is-0 c.in-Held-Held.is-1 c.within.ensures

pub returns-in-Lent-Lent : goal.returns-in-Lent-Lent
returns-in-Lent-Lent c = lent_below _ _ _ _ _ c.in-Lent-Lent.is-0 c.in-Lent-Lent.is-1 c.within-in-Lent-Lent.ensures
