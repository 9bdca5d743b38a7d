use Rattle.c_machine.proofs.Theorems.{machine_is_right}
use Rattle.c_machine.proofs.laws.machine_is_the_run.Goals as goal

pub returns : goal.returns
returns c = machine_is_right
