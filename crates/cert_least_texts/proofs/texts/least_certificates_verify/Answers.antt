use Rattle.vlt_core.specs.View.{program_of}
use Rattle.cert_fit_laws.specs.Limits.{IsLimitedFunc}
use Rattle.cert_fit_laws.proofs.Listed.{all_at}
use Rattle.cert_least_texts.proofs.texts.least_certificates_verify.Goals as goal

pub returns : goal.returns
returns c = λ p all is has.
    let q = program_of p in
    let limited = c.texts_are_limited.ensures q is in
    let kinded = c.elaborated_programs_are_kinded.ensures is.tree is.kinds q is.elaborated in
    let complete = c.least_certificates_are_complete.ensures q all (λ g f at. (all_at IsLimitedFunc q.fns g f limited.fns at).blank) has in
    record {
      fits = c.limited_programs_fit.ensures p all kinded limited complete;
      verifies = c.elaborated_programs_verify.ensures is.tree is.kinds q all is.elaborated has;
    }
