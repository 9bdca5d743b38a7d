use Rattle.cert_least_texts.proofs.Narrow.{narrow}
use Rattle.cert_verify_laws.proofs.Annotated.{not_refused, not_unfit}
use Rattle.cert_verify_laws.proofs.Emitting.{text_tree}
use Rattle.cert_verify_laws.proofs.causes.accepted_texts_can_be_certified.Goals as goal

pub returns : goal.returns
returns c = λ p is accepted.
    let fit = c.programs_are_fit.ensures is.tree is.kinds p (text_tree p is) is.elaborated.told is.elaborated.gives in
    let narrow = narrow p (c.elaborated_programs_have_narrow_states.ensures is.tree is.kinds p is.elaborated) in
    record {
      named = c.texts_have_text_names.ensures p is;
      annotated = not_refused p fit.well_formed accepted;
      noted = not_unfit p (c.texts_have_flows.ensures p is) (c.texts_have_few_statements.ensures p is)
          (λ g f o. c.accepted_bodies_have_notes.ensures p fit.kinded (c.texts_are_limited.ensures p is) fit.well_formed narrow accepted g f o);
    }
