use Rattle.std.proofs.Common.{length}
use Rattle.cert_kinds_heads.proofs.clauses.+has_few_bounds.Given as goal

abbrev pub decreases-has_few_bounds : goal.decreases-has_few_bounds
decreases-has_few_bounds l = length l.clause.now
