use Rattle.c_machine.proofs.Theorems.{they_suffice}
use Rattle.c_machine.proofs.laws.tables_suffice.Goals as goal

pub returns : goal.returns
returns c = they_suffice
