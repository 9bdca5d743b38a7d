use Rattle.vlt_run_laws.proofs.Calls.{scope_is_named}
use Rattle.vlt_run_laws.proofs.known_steps_name_objects.Goals as goal

pub returns : goal.returns
returns c = scope_is_named
