use Rattle.c_kinds.proofs.Main.{can_run}
use Rattle.c_kinds.proofs.laws.unrefused_programs_can_run.Goals as goal

pub returns : goal.returns
returns c = can_run
