use Rattle.std.proofs.Common.{subst}
use Rattle.cert_least_laws.specs.LeastNotes.{IsLeastCertificate}
use Rattle.cert_text_laws.specs.Texts.{IsProgramOfTexts}
use Rattle.cert_least_texts.specs.Texts.{IsCertified}
use Rattle.cert_verify_laws.proofs.emitted.least_certificates_fit.Goals as goal

pub returns : goal.returns
returns c = λ p all is has.
    let code = c.texts_are_of_code.ensures p is in
    subst (λ q. IsProgramOfTexts q → IsLeastCertificate q all → IsCertified q all) code.is
    (c.least_certificates_verify.ensures code.program all) is has
