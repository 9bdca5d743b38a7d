use Rattle.vlt_paths.proofs.Statuses.{held_outside, lent_outside}
use Rattle.vlt_paths.proofs.comes.Comes.is_outside.Goals as goal

pub returns-in-Held : goal.returns-in-Held
returns-in-Held c = rw c.in-Held.is (held_outside c.in-Held.states c.args.wanted c.exceeds.result c.exceeds.ensures)

pub returns-in-Lent : goal.returns-in-Lent
returns-in-Lent c = rw c.in-Lent.is (lent_outside c.in-Lent.states c.args.wanted c.is_filled.result c.is_filled.ensures)
