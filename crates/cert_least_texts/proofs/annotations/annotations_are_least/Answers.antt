use Rattle.vlt_core.specs.View.{program_of}
use Rattle.cert_least_texts.proofs.Annotating.{all_least}
use Rattle.cert_least_texts.proofs.annotations.annotations_are_least.Goals as goal

pub returns : goal.returns
returns c = λ p all is are.
    all_least c.notes_are_kept.ensures p
    (c.elaborated_programs_are_kinded.ensures is.tree is.kinds (program_of p) is.elaborated)
    (c.texts_are_limited.ensures (program_of p) is)
    all are
