use Rattle.std.proofs.Common.{length}
use Rattle.cert_kinds_blocks.proofs.switches.+cases_apart.Given as goal

abbrev pub decreases-cases_apart : goal.decreases-cases_apart
decreases-cases_apart l = length l.arms.now
