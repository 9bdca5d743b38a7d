use Rattle.cert_verify_laws.proofs.Emitting.{text_tree}
use Rattle.cert_verify_laws.proofs.Flows.{limited_formed}
use Rattle.cert_verify_laws.proofs.Numbers.{all_fit}
use Rattle.cert_verify_laws.proofs.causes.texts_are_judged.Goals as goal

pub returns : goal.returns
returns c = λ p is.
    let fit = c.programs_are_fit.ensures is.tree is.kinds p (text_tree p is) is.elaborated.told is.elaborated.gives in
    let limited = c.texts_are_limited.ensures p is in
    all_fit p fit.well_formed.kinded limited (limited_formed p limited) (c.texts_have_flows.ensures p is) (c.texts_have_few_statements.ensures p is) (c.texts_are_light.ensures p is)
