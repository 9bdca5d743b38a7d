use Rattle.std.proofs.Common.{length}
use Rattle.vlt_externals.proofs.host_answers.pieces.+after_pieces.Given as goal

abbrev pub decreases-after_pieces : goal.decreases-after_pieces
decreases-after_pieces l = length l.payload.now
