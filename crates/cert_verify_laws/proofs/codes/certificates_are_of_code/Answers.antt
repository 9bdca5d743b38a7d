use Rattle.cert_verify_laws.proofs.CodePrograms.{code_program}
use Rattle.cert_verify_laws.proofs.RowMasks.{rows_masked}
use Rattle.cert_verify_laws.proofs.codes.certificates_are_of_code.Goals as goal

pub returns : goal.returns
returns c = λ ordered p all fits.
    let x = code_program p (rows_masked ordered p all fits) in
    record { program = x.0; is = x.1 }
