use Rattle.vlt_rows.proofs.Named.{none_permitted}
use Rattle.vlt_rows.proofs.states.permitted_states.Goals as goal

pub returns-in-None : goal.returns-in-None
returns-in-None c = none_permitted c.args.p.now c.args.t.0 c.args.position (rw c.in-None.is at c.permitted.ensures)
