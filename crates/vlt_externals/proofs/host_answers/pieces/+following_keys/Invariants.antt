use Rattle.std.proofs.Common.{length}
use Rattle.vlt_externals.proofs.host_answers.pieces.+following_keys.Given as goal

abbrev pub decreases-following_keys : goal.decreases-following_keys
decreases-following_keys l = length l.keys.now
