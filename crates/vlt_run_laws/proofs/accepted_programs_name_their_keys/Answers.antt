use Rattle.vlt_run_laws.proofs.Calls.{names_its_keys}
use Rattle.vlt_run_laws.proofs.ReachedWhole.{knows_its_steps}
use Rattle.vlt_run_laws.proofs.accepted_programs_name_their_keys.Goals as goal

pub returns : goal.returns
returns c p kinded accepted sizes filled narrow =
    names_its_keys p kinded sizes (knows_its_steps p kinded accepted sizes filled narrow)
