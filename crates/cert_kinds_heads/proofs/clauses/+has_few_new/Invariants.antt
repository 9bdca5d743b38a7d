use Rattle.std.proofs.Common.{length}
use Rattle.cert_kinds_heads.proofs.clauses.+has_few_new.Given as goal

abbrev pub decreases-has_few_new : goal.decreases-has_few_new
decreases-has_few_new l = length l.clause.now
