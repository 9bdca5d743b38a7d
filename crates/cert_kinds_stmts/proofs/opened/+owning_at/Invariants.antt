use Rattle.std.proofs.Common.{length}
use Rattle.cert_kinds_stmts.proofs.opened.+owning_at.Given as goal

abbrev pub decreases-owning_at : goal.decreases-owning_at
decreases-owning_at l = length l.fields.now
