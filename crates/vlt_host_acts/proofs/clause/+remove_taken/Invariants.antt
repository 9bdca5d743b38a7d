use Rattle.std.proofs.Common.{length}
use Rattle.vlt_host_acts.proofs.clause.+remove_taken.Given as goal

abbrev pub decreases-remove_taken : goal.decreases-remove_taken
decreases-remove_taken l = length l.clause.now
