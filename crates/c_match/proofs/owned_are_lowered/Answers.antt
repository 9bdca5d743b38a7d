use Rattle.c_match.proofs.Forgetting.{lowering_forgets}
use Rattle.c_match.proofs.owned_are_lowered.Goals as goal

pub returns : goal.returns
returns c = lowering_forgets
