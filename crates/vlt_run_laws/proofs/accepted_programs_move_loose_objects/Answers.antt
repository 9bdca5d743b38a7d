use Rattle.vlt_run_laws.proofs.Loose.{moves_loose_objects}
use Rattle.vlt_run_laws.proofs.accepted_programs_move_loose_objects.Goals as goal

pub returns : goal.returns
returns c = moves_loose_objects
