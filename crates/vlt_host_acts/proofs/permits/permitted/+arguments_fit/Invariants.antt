use Rattle.std.proofs.Common.{length}
use Rattle.vlt_host_acts.proofs.permits.permitted.+arguments_fit.Given as goal

abbrev pub decreases-arguments_fit : goal.decreases-arguments_fit
decreases-arguments_fit l = length l.params.now
