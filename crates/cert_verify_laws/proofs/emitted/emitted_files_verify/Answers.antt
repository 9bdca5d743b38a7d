use Rattle.cert_verify_laws.proofs.Emitting.{accepted_tree, emitted}
use Rattle.cert_format.specs.Places.{unplaced_program}
use Rattle.cert_format_laws.specs.Versions.{is_ordered}
use Rattle.cert_verify_laws.proofs.emitted.emitted_files_verify.Goals as goal

pub returns : goal.returns
returns c = λ p all is accepted least short.
    let fit = c.least_certificates_fit.ensures p all is least in
    let q = unplaced_program p in
    let named = c.names_stay_without_places.ensures p (c.texts_have_text_names.ensures p is) in
    emitted c.certificates_are_written.ensures p all fit (c.compact_texts_are_read_back.ensures.read_back (is_ordered q) q all fit.fits named)
    (c.accepted_texts_are_read_again.ensures is.tree p is.spelled (accepted_tree p is accepted) short)
