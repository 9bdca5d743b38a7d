use Rattle.vlt_paths.proofs.Statuses.{lent_of, held_again}
use Rattle.vlt_paths.proofs.comes.Comes.left_as.Goals as goal

pub returns-in-Held-Lend : goal.returns-in-Held-Lend
returns-in-Held-Lend c q = rw (c.in-Held-Lend.is-0, c.in-Held-Lend.is-1) (lent_of c.in-Held-Lend.states q)

pub returns-in-Lent-Unlend : goal.returns-in-Lent-Unlend
returns-in-Lent-Unlend c q = rw (c.in-Lent-Unlend.is-0, c.in-Lent-Unlend.is-1) (held_again c.in-Lent-Unlend.states q)
