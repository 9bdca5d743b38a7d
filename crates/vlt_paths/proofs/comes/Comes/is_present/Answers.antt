use Rattle.vlt_paths.proofs.Statuses.{held_present, lent_present}
use Rattle.vlt_paths.proofs.comes.Comes.is_present.Goals as goal

pub returns-in-Held : goal.returns-in-Held
returns-in-Held c = rw c.in-Held.is (held_present c.in-Held.states c.is_filled.result c.is_filled.ensures)

pub returns-in-Lent : goal.returns-in-Lent
returns-in-Lent c = rw c.in-Lent.is (lent_present c.in-Lent.states c.is_filled-in-Lent.result c.is_filled-in-Lent.ensures)
