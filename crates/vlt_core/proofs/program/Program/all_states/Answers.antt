use Rattle.vlt_core.proofs.program.Program.all_states.Goals as goal

pub returns : goal.returns
returns c = rw c.state_count.ensures at c.first_states.ensures
