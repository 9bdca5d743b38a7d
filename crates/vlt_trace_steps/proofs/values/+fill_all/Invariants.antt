use Rattle.std.proofs.Common.{length}
use Rattle.vlt_trace_steps.proofs.values.+fill_all.Given as goal

abbrev pub decreases-fill_all : goal.decreases-fill_all
decreases-fill_all l = length l.vs.now
