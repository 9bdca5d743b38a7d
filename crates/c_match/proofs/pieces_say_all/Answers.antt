use Rattle.c_match.proofs.Saying.{pieces_say_all}
use Rattle.c_match.proofs.pieces_say_all.Goals as goal

pub returns : goal.returns
returns c = pieces_say_all
