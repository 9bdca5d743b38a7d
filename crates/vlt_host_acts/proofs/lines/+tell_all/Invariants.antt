use Rattle.std.proofs.Common.{length}
use Rattle.vlt_host_acts.proofs.lines.+tell_all.Given as goal

abbrev pub decreases-tell_all : goal.decreases-tell_all
decreases-tell_all l = length l.args.now
