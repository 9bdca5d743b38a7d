use Rattle.std.proofs.Common.{length}
use Rattle.vlt_host_acts.proofs.frames.+name_keys.Given as goal

abbrev pub decreases-name_keys : goal.decreases-name_keys
decreases-name_keys l = length l.params.now
