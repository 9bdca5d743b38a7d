use Rattle.std.proofs.Common.{length}
use Rattle.vlt_externals.proofs.results.states.+set_case.Given as goal

abbrev pub decreases-set_case : goal.decreases-set_case
decreases-set_case l = length l.listed.now
