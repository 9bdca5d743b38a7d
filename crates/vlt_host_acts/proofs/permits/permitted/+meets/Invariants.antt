use Rattle.std.proofs.Common.{length}
use Rattle.vlt_host_acts.proofs.permits.permitted.+meets.Given as goal

abbrev pub decreases-meets : goal.decreases-meets
decreases-meets l = length l.clause.now
