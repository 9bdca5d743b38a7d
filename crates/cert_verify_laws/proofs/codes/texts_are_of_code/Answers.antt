use Rattle.cert_verify_laws.proofs.CodePrograms.{code_program}
use Rattle.cert_verify_laws.proofs.Masking.{elaborated_masked}
use Rattle.cert_verify_laws.proofs.codes.texts_are_of_code.Goals as goal

pub returns : goal.returns
returns c = λ p is.
    let masks = c.elaborated_programs_have_masks.ensures is.tree is.kinds p is.elaborated in
    let x = code_program p (elaborated_masked is.tree is.kinds p is.elaborated masks) in
    record { program = x.0; is = x.1 }
