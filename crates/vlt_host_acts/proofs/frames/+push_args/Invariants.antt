use Rattle.std.proofs.Common.{length}
use Rattle.vlt_host_acts.proofs.frames.+push_args.Given as goal

abbrev pub decreases-push_args : goal.decreases-push_args
decreases-push_args l = length l.args.now
