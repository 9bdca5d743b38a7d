use Rattle.std.proofs.Common.{length}
use Rattle.vlt_trace_steps.proofs.cases.+open_case.Given as goal

abbrev pub decreases-open_case : goal.decreases-open_case
decreases-open_case l = length l.keys.now
