use Rattle.std.proofs.Common.{length}
use Rattle.cert_kinds_stmts.proofs.opened.+has_owning.Given as goal

abbrev pub decreases-has_owning : goal.decreases-has_owning
decreases-has_owning l = length l.fields.now
