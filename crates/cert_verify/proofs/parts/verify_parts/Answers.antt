use Rattle.std.proofs.Common.{◌≡◌, Err, sym, subst, rules, arith}
use Rattle.std.proofs.lemmas.Grind.{common_steps}
use Rattle.vlt_core.specs.View.{program_of}
use Rattle.c_syntax.specs.View as c_view
use Rattle.cert_read.specs.Declarations.{notes_of_all}
use Rattle.cert_check.specs.Unfit.{IsUnfit}
use Rattle.cert_fit_laws.specs.Annotation.{IsLocalCertificate}
use Rattle.cert_verify.specs.Outcomes.{IsAnswer}
use Rattle.cert_verify.specs.Parts.{of_match}
use Rattle.cert_verify.proofs.Failing.{few_cases, not_lowered_as, testable}
use Rattle.cert_verify.proofs.parts.verify_parts.Goals as goal

pub matches-requires : goal.matches-requires
matches-requires c =
    let f = c.in_ok-file.file in
    few_cases c.args.text.now (c_view.program_of f.c_program) (program_of f.program) (notes_of_all f.notes) c.in_ok-file.ensures
    c.certificates_are_formed.ensures

pub test_notes-requires : goal.test_notes-requires
test_notes-requires c =
    let f = c.in_ok-file.file in
    subst (λ notes. IsUnfit (program_of f.program) (notes_of_all notes) → ⊥) (sym c.as_slice.ensures)
    (testable c.texts_have_more_bytes.ensures c.certificates_arent_unfit.ensures c.args.text.now (c_view.program_of f.c_program) f.program (notes_of_all f.notes) c.requires
    c.in_ok-file.ensures c.in_ok-kinded.ensures)

pub returns-in_err-matches : goal.returns-in_err-matches
returns-in_err-matches c =
    let f = c.in_ok-file.file in
    let e = c.in_err-matches.field-0.0 in
    let is : c.from_residual-in_err-matches.result ≡ Err (of_match e) = first_of (search rules, grind (arith, common_steps)) in
    let local : IsLocalCertificate (program_of f.program) (notes_of_all f.notes) =
    subst (λ ns. IsLocalCertificate (program_of f.program) (notes_of_all ns)) c.as_slice.ensures c.in_ok-test_notes.ensures in
    subst (IsAnswer c.args.text.now) (sym is)
    (not_lowered_as c.args.text.now (c_view.program_of f.c_program) (program_of f.program) (notes_of_all f.notes) c.in_ok-file.ensures c.in_ok-kinded.ensures local e
    c.in_err-matches.ensures)
