use Rattle.vlt_core_laws.proofs.Headed.{kinded_parts}
use Rattle.cert_least_texts.proofs.Narrow.{narrow}
use Rattle.cert_least_texts.proofs.texts.accepted_texts_have_one.Goals as goal

pub returns : goal.returns
returns c = λ p is accepted.
    let kinded = c.elaborated_programs_are_kinded.ensures is.tree is.kinds p is.elaborated in
    c.accepted_programs_have_one.ensures p kinded (c.texts_are_limited.ensures p is)
    (record {
      kinded = kinded_parts p kinded;
      states = c.elaborated_programs_have_states.ensures is.tree is.kinds p is.elaborated;
      arms = c.elaborated_programs_have_arms.ensures is.tree is.kinds p is.elaborated;
    })
    (narrow p (c.elaborated_programs_have_narrow_states.ensures is.tree is.kinds p is.elaborated)) accepted
