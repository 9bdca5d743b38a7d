use Rattle.std.proofs.Common.{sym, subst}
use Rattle.cert_verify_laws.specs.Promises.{DoesAs}
use Rattle.cert_verify_laws.proofs.promises.verified_programs_go_right.Goals as goal

pub returns : goal.returns
returns c = λ text p all x cert is reads.
    let keeps = c.verified_files_keep_their_promise.ensures text p all is in
    subst (λ y. DoesAs y p) (sym (keeps.reads x cert reads))
    (record { same = keeps.runs_alike; defined = keeps.is_defined; never_goes_wrong = keeps.never_goes_wrong })
