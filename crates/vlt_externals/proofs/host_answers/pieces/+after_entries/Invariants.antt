use Rattle.std.proofs.Common.{length}
use Rattle.vlt_externals.proofs.host_answers.pieces.+after_entries.Given as goal

abbrev pub decreases-after_entries : goal.decreases-after_entries
decreases-after_entries l = length l.entries.now
