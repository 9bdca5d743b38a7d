use Rattle.std.proofs.Common.{length}
use Rattle.vlt_host_acts.proofs.permits.arguments.+give_those.Given as goal

abbrev pub decreases-give_those : goal.decreases-give_those
decreases-give_those l = length l.params.now
