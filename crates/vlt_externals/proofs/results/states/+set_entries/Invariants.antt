use Rattle.std.proofs.Common.{length}
use Rattle.vlt_externals.proofs.results.states.+set_entries.Given as goal

abbrev pub decreases-set_entries : goal.decreases-set_entries
decreases-set_entries l = length l.entries.now
