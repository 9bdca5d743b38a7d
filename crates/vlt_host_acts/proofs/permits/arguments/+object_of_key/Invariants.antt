use Rattle.std.proofs.Common.{length}
use Rattle.vlt_host_acts.proofs.permits.arguments.+object_of_key.Given as goal

abbrev pub decreases-object_of_key : goal.decreases-object_of_key
decreases-object_of_key l = length l.params.now
