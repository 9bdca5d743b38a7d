use Rattle.vlt_core.proofs.program.Program.states_or_all.Goals as goal

pub returns-in-None : goal.returns-in-None
returns-in-None c = rw c.in-None.is c.states_of_key.ensures
