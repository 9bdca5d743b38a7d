use Rattle.std.proofs.Common.{length}
use Rattle.cert_kinds_heads.proofs.keys.+are_apart.Given as goal

abbrev pub decreases-are_apart : goal.decreases-are_apart
decreases-are_apart l = length l.clause.now
