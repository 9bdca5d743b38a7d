use Rattle.vlt_meaning_laws.proofs.OfMachine.Theorem as theorem
use Rattle.vlt_meaning_laws.proofs.machine.machine_is_the_run.Goals as goal

pub returns : goal.returns
returns c = theorem.machine_is_the_run
