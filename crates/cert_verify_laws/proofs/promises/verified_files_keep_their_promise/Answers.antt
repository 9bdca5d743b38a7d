use Rattle.std.proofs.Common.{Some, ◌∙◌, subst}
use Rattle.cert_format.specs.Certificate.{FitsCertificate}
use Rattle.cert_fit_laws.specs.Annotation.{IsVerified}
use Rattle.c_lower_accepted.specs.Accepted.{IsAcceptedProgram}
use Rattle.c_lower_accepted.specs.Promise.{RunsAlike, IsDefined}
use Rattle.cert_verify_laws.proofs.promises.verified_files_keep_their_promise.Goals as goal

pub returns : goal.returns
returns c = λ text p all is.
    let o = is.certified.certificate.ordered in
    let fits = is.certified.certificate.fits in
    let code = c.certificates_are_of_code.ensures o p all fits in
    let a = subst (λ q. FitsCertificate o q all → IsVerified q all → IsAcceptedProgram q) code.is (c.verified_are_accepted_programs.ensures o code.program all) fits is.verified in
    record {
      reads = λ x cert other. ((c.texts_are_read_in_one_way.ensures text).one_program x is.x cert (Some is.certified.cert) other is.certified.reads).0 ∙ is.lowered;
      accepted = a.accepted;
      never_goes_wrong = c.accepted_programs_go_right.ensures.never p a.kinded a.accepted a.sizes a.states a.narrow;
      leaves_only_its_clause = c.accepted_programs_go_right.ensures.leaves p a.kinded a.accepted a.sizes a.states a.narrow;
      runs_alike = subst (λ q. FitsCertificate o q all → IsVerified q all → RunsAlike q) code.is (c.verified_programs_run_alike.ensures.alike o code.program all) fits is.verified;
      is_defined = subst (λ q. FitsCertificate o q all → IsVerified q all → IsDefined q) code.is (c.verified_programs_run_alike.ensures.defined o code.program all) fits is.verified;
    }
