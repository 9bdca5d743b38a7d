-- It can't be that the notes of a certificate neither hold nor are refused.
use Rattle.std.proofs.Common.{sym, subst}
use Rattle.vlt_base.specs.Sure.{Surely}
use Rattle.vlt_core.specs.Kinded.{IsKinded}
use Rattle.cert_format.specs.Certificate.{FitsCertificate}
use Rattle.cert_check_laws.specs.Laws.{HasAnswer, CertificatesHaveAnAnswer}
use Rattle.cert_verify.specs.Laws.{NotesHaveAnAnswer}
use Rattle.cert_verify_laws.specs.CodePrograms.{CertificatesAreOfCode}

-- the program is one of the code
pub answered : CertificatesAreOfCode → CertificatesHaveAnAnswer → NotesHaveAnAnswer
answered code answer o p all fits kinded =
    let c = code o p all fits in
    subst (λ q. Surely (HasAnswer q all)) c.is
    (answer o c.program all (subst (λ q. FitsCertificate o q all) (sym c.is) fits) (subst IsKinded (sym c.is) kinded))
