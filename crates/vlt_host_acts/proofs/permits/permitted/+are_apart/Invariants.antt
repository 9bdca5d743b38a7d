use Rattle.std.proofs.Common.{length}
use Rattle.vlt_host_acts.proofs.permits.permitted.+are_apart.Given as goal

abbrev pub decreases-are_apart : goal.decreases-are_apart
decreases-are_apart l = length l.clause.now
