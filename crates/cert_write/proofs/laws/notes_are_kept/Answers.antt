use Rattle.cert_write.proofs.Same.{notes_kept}
use Rattle.cert_write.proofs.laws.notes_are_kept.Goals as goal

pub returns : goal.returns
returns c = notes_kept
