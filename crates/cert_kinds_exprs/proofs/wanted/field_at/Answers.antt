use Rattle.std.proofs.Common.{◌∙◌, ap, Some}
use Rattle.vlt_core.specs.Types.{with_keys}
use Rattle.vlt_core.specs.View.{keys_of, field_of}
use Rattle.cert_kinds_exprs.proofs.Found.{at_two}
use Rattle.cert_kinds_exprs.proofs.wanted.field_at.Goals as goal

pub returns-in-Some : goal.returns-in-Some
returns-in-Some c =
    ap Some c.below.ensures ∙ at_two (λ d. with_keys (keys_of c.args.args.now) d.ty) field_of c.args.fields.now c.args.i c.in-Some.d.now c.in-Some.ensures.lookup.3.0 c.in-Some.ensures.lookup.1
