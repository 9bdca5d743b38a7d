use Rattle.std.proofs.Common.{ap, ◌∙◌, Err}
use Rattle.cert_verify.proofs.parts.test_notes.Goals as goal

pub unreachable-requires : goal.unreachable-requires
unreachable-requires c = c.requires (c.local.ensures.unfit.holds (c.in-Err-Unfit.is ∙ ap (λ x. Err x) c.in-Err-Unfit.field-0-is))
