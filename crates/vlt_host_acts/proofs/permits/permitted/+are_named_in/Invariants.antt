use Rattle.std.proofs.Common.{length}
use Rattle.vlt_host_acts.proofs.permits.permitted.+are_named_in.Given as goal

abbrev pub decreases-are_named_in : goal.decreases-are_named_in
decreases-are_named_in l = length l.clause.now
