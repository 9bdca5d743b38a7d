use Rattle.vlt_core.specs.View.{program_of}
use Rattle.cert_least_texts.proofs.Holding.{held_annotations}
use Rattle.cert_least_texts.proofs.held.held_annotations_are_local.Goals as goal

pub returns : goal.returns
returns c = λ p all is are.
    held_annotations c.notes_are_kept.ensures p
    (c.elaborated_programs_are_kinded.ensures is.tree is.kinds (program_of p) is.elaborated)
    (c.texts_are_limited.ensures (program_of p) is)
    all are
