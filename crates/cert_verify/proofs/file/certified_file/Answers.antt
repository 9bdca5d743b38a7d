use Rattle.std.proofs.Common.{◌≡◌, Ok, Err, sym, subst, rules, arith}
use Rattle.std.proofs.lemmas.Grind.{common_steps}
use Rattle.c_syntax.specs.Reading.{IsCProgramOf}
use Rattle.c_syntax.specs.View.{program_of}
use Rattle.cert_verify.specs.Refusals.{no_mark}
use Rattle.cert_read.specs.Certificates as read
use Rattle.cert_verify.specs.Parts.{of_read, IsOpened}
use Rattle.cert_verify.proofs.Failing.{marked_within, uncertified_as, certified}
use Rattle.cert_verify.proofs.file.certified_file.Goals as goal

pub returns-in_default : goal.returns-in_default
returns-in_default c =
    let x = program_of c.in_ok-file.file.program in
    no_mark x (subst (IsCProgramOf c.args.text.now x) c.in_default.is c.in_ok-file.ensures)

pub text_from-requires : goal.text_from-requires
text_from-requires c =
    let x = program_of c.in_ok-file.file.program in
    marked_within c.args.text.now x c.in-Some.span (subst (IsCProgramOf c.args.text.now x) c.in-Some.is c.in_ok-file.ensures)

pub returns-in_err-certificate : goal.returns-in_err-certificate
returns-in_err-certificate c =
    let x = program_of c.in_ok-file.file.program in
    let reads = subst (IsCProgramOf c.args.text.now x) c.in-Some.is c.in_ok-file.ensures in
    let e = c.in_err-certificate.field-0.0 in
    let is : c.from_residual-in_err-certificate.result ≡ Err (of_read e) = first_of (search rules, grind (arith, common_steps)) in
    subst (IsOpened c.args.text.now) (sym is)
    (uncertified_as c.args.text.now x c.in-Some.span reads e
    (subst (λ t. read.IsReadAs t (Err e)) c.text_from.ensures c.in_err-certificate.ensures.read))

pub returns : goal.returns
returns c =
    let x = program_of c.in_ok-file.file.program in
    let reads = subst (IsCProgramOf c.args.text.now x) c.in-Some.is c.in_ok-file.ensures in
    let y = c.in_ok-certificate.certificate in
    certified c.args.text.now x c.in-Some.span reads y (subst (λ t. read.IsReadAs t (Ok y)) c.text_from.ensures c.in_ok-certificate.ensures.read)
