use Rattle.std.proofs.Common.{ap, ◌∙◌, Err}
use Rattle.vlt_core.specs.View.{program_of}
use Rattle.vaultc_core.proofs.emit.certificate.Goals as goal

pub returns-in-Ok : goal.returns-in-Ok
returns-in-Ok c = c.in-Ok.ensures.text c.requires.texts

pub unreachable-requires : goal.unreachable-requires
unreachable-requires c =
    (c.accepted_texts_can_be_certified.ensures (program_of c.args.program.now) c.requires.texts c.requires.accepted).annotated
    (c.certificate_text.ensures.refused.holds (c.in-Err-Refused.is ∙ ap (λ x. Err x) c.in-Err-Refused.field-0-is))

pub unreachable-requires-in-Err-Unfit : goal.unreachable-requires-in-Err-Unfit
unreachable-requires-in-Err-Unfit c =
    (c.accepted_texts_can_be_certified.ensures (program_of c.args.program.now) c.requires.texts c.requires.accepted).noted
    (c.certificate_text.ensures.unfit.holds (c.in-Err-Unfit.is ∙ ap (λ x. Err x) c.in-Err-Unfit.field-0-is))

pub unreachable-requires-in-Err-Name : goal.unreachable-requires-in-Err-Name
unreachable-requires-in-Err-Name c =
    c.certificate_text.ensures.name.holds (c.in-Err-Name.is ∙ ap (λ x. Err x) c.in-Err-Name.field-0-is)
    (c.accepted_texts_can_be_certified.ensures (program_of c.args.program.now) c.requires.texts c.requires.accepted).named
