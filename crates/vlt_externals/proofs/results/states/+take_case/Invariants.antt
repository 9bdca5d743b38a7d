use Rattle.std.proofs.Common.{length}
use Rattle.vlt_externals.proofs.results.states.+take_case.Given as goal

abbrev pub decreases-take_case : goal.decreases-take_case
decreases-take_case l = length l.listed.now
