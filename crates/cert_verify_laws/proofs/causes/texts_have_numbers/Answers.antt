use Rattle.cert_verify_laws.proofs.Emitting.{text_tree}
use Rattle.cert_verify_laws.proofs.Flows.{limited_formed}
use Rattle.cert_verify_laws.proofs.Numbers.{has_numbers}
use Rattle.cert_verify_laws.proofs.causes.texts_have_numbers.Goals as goal

pub returns : goal.returns
returns c = λ p is g f o there own origin.
    let fit = c.programs_are_fit.ensures is.tree is.kinds p (text_tree p is) is.elaborated.told is.elaborated.gives in
    let limited = c.texts_are_limited.ensures p is in
    has_numbers p fit.well_formed.kinded limited (limited_formed p limited) g f o there own (c.texts_are_light.ensures p is g f there) (c.texts_have_few_statements.ensures p is g f there)
