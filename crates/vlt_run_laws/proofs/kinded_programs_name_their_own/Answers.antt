use Rattle.vlt_run_laws.proofs.OwnWhole.{names_own}
use Rattle.vlt_run_laws.proofs.kinded_programs_name_their_own.Goals as goal

pub returns : goal.returns
returns c = names_own
