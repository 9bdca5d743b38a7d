use Rattle.std.proofs.Common.{length}
use Rattle.vlt_externals.proofs.sending.+send_taken.Given as goal

abbrev pub decreases-send_taken : goal.decreases-send_taken
decreases-send_taken l = length l.entries.now
