use Rattle.std.proofs.Common.{length}
use Rattle.vlt_externals.proofs.results.results.+new_key.Given as goal

abbrev pub decreases-new_key : goal.decreases-new_key
decreases-new_key l = length l.entries.now
