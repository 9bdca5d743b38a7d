use Rattle.std.proofs.Common.{length}
use Rattle.cert_kinds_calls.proofs.clauses.+stay_apart.Given as goal

abbrev pub decreases-stay_apart : goal.decreases-stay_apart
decreases-stay_apart l = length l.clause.now
